use Rattle.std.proofs.Common.{Any, map, take}
use Rattle.cedar_queries.proofs.descent.may_be_in_any.Given as goal
use Rattle.cedar_queries.specs.Words.{MayBeIn, plain_action_entry, plain_entry, type_name}

abbrev pub invariant-loop-upper : goal.invariant-loop-upper
invariant-loop-upper l =
    ¬ Any (λ upper. MayBeIn (map plain_entry l.types.entries) (map plain_action_entry l.actions.entries) (type_name l.lower)
    (type_name upper)) (take l.upper-index l.ancestors)
