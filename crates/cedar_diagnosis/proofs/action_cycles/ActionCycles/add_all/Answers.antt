use Rattle.std.proofs.Common.{List, map}
use Rattle.cedar_ast.specs.Words.{uid_of}
use Rattle.cedar_ast.specs.declared.entity_uid.EntityUID.{EntityUID}
use Rattle.cedar_diagnosis.proofs.AddingLemmas.{gives_all, gives_next, none_give}
use Rattle.cedar_diagnosis.proofs.action_cycles.ActionCycles.add_all.Goals as goal
use Rattle.cedar_diagnosis.specs.Finding.{LinksToParent}
use Rattle.cedar_diagnosis.specs.Links.{link_told}
use Rattle.cedar_diagnosis.specs.ReferenceKeys.{key_parent}
use Rattle.cedar_diagnosis.specs.declared.cycles.Link.{Link}
use Rattle.cedar_name_resolution.specs.Words.{held_names}
use Rattle.cedar_schema_semantics.specs.Words.{Fault, action_cycle}

-- links between common types
abbrev told : List (Link EntityUID) → List (Fault × Fault)
told links = map (link_told (λ key. action_cycle (uid_of key))) links

pub loop-parent-init : goal.loop-parent-init
loop-parent-init c = none_give (LinksToParent (held_names c.args.self.now.defs.now).actions (uid_of c.args.lower.now)) (told c.args.links.now.items)

pub loop-parent-preserved : goal.loop-parent-preserved
loop-parent-preserved c =
    gives_next (LinksToParent (held_names c.args.self.now.defs.now).actions (uid_of c.args.lower.now)) key_parent c.args.parents.now
    (told c.args.links.now.items) c.loop-parent.parent-index c.parent-item.result (told c.loop-parent.links.items) (told c.add.new.links.items) c.loop-parent-test.true
    c.parent-item.is c.loop-parent.invariant c.in_ok-add.ensures

pub returns : goal.returns
returns c =
    gives_all (LinksToParent (held_names c.args.self.now.defs.now).actions (uid_of c.args.lower.now)) key_parent c.args.parents.now
    (told c.args.links.now.items) c.loop-parent.parent-index (told c.loop-parent.links.items) c.loop-parent-test.false c.loop-parent.invariant
