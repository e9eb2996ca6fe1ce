use Rattle.std.proofs.Common.{map, codes, take}
use Rattle.std.specs.Fmt.{HasWritten, IsPlainFormatter}
use Rattle.cedar_schema_semantics.proofs.schema_error.write_other_actions.Given as goal
use Rattle.cedar_schema_semantics.specs.Words.{action_reference_text, carried_action, each_after}

abbrev pub invariant-loop-action : goal.invariant-loop-action
invariant-loop-action g l =
    IsPlainFormatter l.initial.f → HasWritten g.W.Write.write_str_gives l.initial.f
    (each_after (codes ", or as ") (map (λ it. action_reference_text it.0 it.1) (map carried_action (take l.action-index l.actions)))) l.f
