use Rattle.std.proofs.Common.{◌≡◌, map, take}
use Rattle.cedar_schema_text.specs.Here.{action_here}
use Rattle.cedar_schema_text.specs.Named.{named}
use Rattle.cedar_schema_text.proofs.declared.action_names.Given as goal

abbrev pub invariant-loop-action : goal.invariant-loop-action
invariant-loop-action l =
    map named l.all.items ≡ map (λ it. it.name) (map action_here (take l.action-index l.actions))
