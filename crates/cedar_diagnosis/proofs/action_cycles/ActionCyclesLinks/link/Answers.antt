use Rattle.std.proofs.Common.{◌≡◌, [], ◌∷◌, List, OnOk, map, subst}
use Rattle.cedar_ast.specs.Words.{uid_of}
use Rattle.cedar_ast.specs.declared.entity_uid.EntityUID.{EntityUID}
use Rattle.cedar_diagnosis.proofs.ActionCycleLemmas.{linked_parents}
use Rattle.cedar_diagnosis.proofs.action_cycles.ActionCyclesLinks.link.Goals as goal
use Rattle.cedar_diagnosis.specs.Adding.{Adds, SomeGives}
use Rattle.cedar_diagnosis.specs.Finding.{LinksToParent}
use Rattle.cedar_diagnosis.specs.Lent.{declaration_of}
use Rattle.cedar_diagnosis.specs.Links.{link_told}
use Rattle.cedar_diagnosis.specs.Names.{action_uids_in}
use Rattle.cedar_diagnosis.specs.ReferenceKeys.{key_parent}
use Rattle.cedar_diagnosis.specs.declared.cycles.Link.{Link}
use Rattle.cedar_diagnosis.specs.declared.parent_key.ParentKey.{ParentKey}
use Rattle.cedar_name_resolution.specs.Words.{held_names}
use Rattle.cedar_schema_semantics.specs.Words.{Fault, action_cycle}

-- links between actions
abbrev told : List (Link EntityUID) → List (Fault × Fault)
told links = map (link_told (λ key. action_cycle (uid_of key))) links

pub returns : goal.returns
returns c =
    let it = declaration_of c.args.it.now in
    let actions = (held_names c.args.self.now.defs.now).actions in
    let lower = uid_of c.in-Some.lower in
    let is_one : lower ∷ [] ≡ action_uids_in it = rw c.in-Some.is at c.in_ok-lower.ensures in
    let Of : List ParentKey → Type 0 = λ parents.
    OnOk c.add_all.result (Adds (SomeGives (LinksToParent actions lower) (map key_parent parents)) (told c.args.links.now.items) (told c.add_all.new.links.items)) in
    linked_parents c.add_all.result actions it lower (map key_parent c.in_ok-parents.parents.items) (told c.args.links.now.items)
    (told c.add_all.new.links.items) is_one c.in_ok-parents.ensures (subst Of c.deref.ensures.value c.add_all.ensures)
