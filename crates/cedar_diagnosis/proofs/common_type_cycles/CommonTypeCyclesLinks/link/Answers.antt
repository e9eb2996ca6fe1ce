use Rattle.std.proofs.Common.{◌≡◌, [], ◌∷◌, List, OnOk, map, subst}
use Rattle.cedar_ast.specs.Words.{name_of}
use Rattle.cedar_ast.specs.declared.internal_name.InternalName.{InternalName}
use Rattle.cedar_diagnosis.proofs.CommonCycles.{linked_across}
use Rattle.cedar_diagnosis.proofs.common_type_cycles.CommonTypeCyclesLinks.link.Goals as goal
use Rattle.cedar_diagnosis.specs.Adding.{Adds, SomeGives}
use Rattle.cedar_diagnosis.specs.Finding.{RefersAcross}
use Rattle.cedar_diagnosis.specs.Lent.{declaration_of}
use Rattle.cedar_diagnosis.specs.Links.{link_told}
use Rattle.cedar_diagnosis.specs.Mentioned.{reference_of}
use Rattle.cedar_diagnosis.specs.Names.{common_names_in}
use Rattle.cedar_diagnosis.specs.declared.cycles.Link.{Link}
use Rattle.cedar_diagnosis.specs.declared.mentions.WrittenReference.{WrittenReference}
use Rattle.cedar_name_resolution.specs.Words.{held_names}
use Rattle.cedar_schema_semantics.specs.Words.{Fault, common_type_cycle}

-- links between common types
abbrev told : List (Link InternalName) → List (Fault × Fault)
told links = map (link_told (λ key. common_type_cycle (name_of key))) links

pub returns : goal.returns
returns c =
    let it = declaration_of c.args.it.now in
    let names = held_names c.args.self.now.defs.now in
    let lower = name_of c.in-Some.lower in
    let is_one : lower ∷ [] ≡ common_names_in it = rw c.in-Some.is at c.in_ok-lower.ensures in
    let Of : List WrittenReference → Type 0 = λ references.
    OnOk c.add_all.result (Adds (SomeGives (RefersAcross names lower) (map reference_of references)) (told c.args.links.now.items) (told c.add_all.new.links.items)) in
    linked_across c.add_all.result names it lower (map reference_of c.in_ok-mentions.mentions.references.items) (told c.args.links.now.items)
    (told c.add_all.new.links.items) is_one c.in_ok-mentions.ensures.references (subst Of c.deref.ensures.value c.add_all.ensures)
