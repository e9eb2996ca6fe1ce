use Rattle.std.proofs.Common.{ap, map}
use Rattle.cedar_ast.specs.Words.{uid_of}
use Rattle.cedar_ast.specs.declared.entity_uid.EntityUID.{EntityUID}
use Rattle.cedar_diagnosis.proofs.ActionCycleLemmas.{links_none, links_one}
use Rattle.cedar_diagnosis.proofs.action_cycles.ActionCycles.add.Goals as goal
use Rattle.cedar_diagnosis.specs.Links.{link_told}
use Rattle.cedar_diagnosis.specs.ReferenceKeys.{key_parent}
use Rattle.cedar_diagnosis.specs.declared.cycles.Link.{Link}
use Rattle.cedar_name_resolution.proofs.SetLemmas.{HasAlso-pushed}
use Rattle.cedar_name_resolution.specs.Words.{held_names}
use Rattle.cedar_schema_semantics.specs.Words.{Fault, action_cycle}

-- a link between actions
abbrev told : Link EntityUID → Fault × Fault
told link = link_told (λ key. action_cycle (uid_of key)) link

pub returns-in_ok-push-in-Some : goal.returns-in_ok-push-in-Some
returns-in_ok-push-in-Some c =
    let item : Link EntityUID = record { from = c.in_ok-from.from; to = c.in-Some.to } in
    let upper = uid_of c.in-Some.to in
    links_one (held_names c.args.self.now.defs.now).actions (key_parent c.args.parent.now) (uid_of c.args.lower.now) upper (map told c.args.links.now.items)
    (map told c.push.new.self.items) (told item) (ap (λ uid. (action_cycle uid, action_cycle upper)) c.in_ok-from.ensures.uid)
    (rw c.in-Some.is at c.in_ok-to.ensures)
    (HasAlso-pushed told c.args.links.now.items c.push.new.self.items item c.in_ok-push-in-Some.ensures.items)

pub returns-in-None : goal.returns-in-None
returns-in-None c =
    links_none (held_names c.args.self.now.defs.now).actions (key_parent c.args.parent.now) (uid_of c.args.lower.now) (map told c.args.links.now.items)
    (rw c.in-None.is at c.in_ok-to.ensures)
