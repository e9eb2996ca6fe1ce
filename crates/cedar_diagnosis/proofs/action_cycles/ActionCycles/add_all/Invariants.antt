use Rattle.std.proofs.Common.{map, take}
use Rattle.cedar_ast.specs.Words.{uid_of}
use Rattle.cedar_diagnosis.proofs.action_cycles.ActionCycles.add_all.Given as goal
use Rattle.cedar_diagnosis.specs.Adding.{Adds, SomeGives}
use Rattle.cedar_diagnosis.specs.Finding.{LinksToParent}
use Rattle.cedar_diagnosis.specs.Links.{link_told}
use Rattle.cedar_diagnosis.specs.ReferenceKeys.{key_parent}
use Rattle.cedar_name_resolution.specs.Words.{held_names}
use Rattle.cedar_schema_semantics.specs.Words.{action_cycle}

abbrev pub invariant-loop-parent : goal.invariant-loop-parent
invariant-loop-parent l =
    Adds (SomeGives (LinksToParent (held_names l.self.defs.now).actions (uid_of l.lower)) (map key_parent (take l.parent-index l.parents)))
    (map (link_told (λ key. action_cycle (uid_of key))) l.fn.links.items) (map (link_told (λ key. action_cycle (uid_of key))) l.links.items)
