use Rattle.std.proofs.Common.{Any, map, take}
use Rattle.cedar_queries.proofs.descent.any_descendent_of.Given as goal
use Rattle.cedar_queries.specs.Words.{MayBeIn, plain_action_entry, plain_entry, type_name}

abbrev pub invariant-loop-lower : goal.invariant-loop-lower
invariant-loop-lower l =
    ¬ Any (λ lower. Any (λ upper. MayBeIn (map plain_entry l.types.entries) (map plain_action_entry l.actions.entries)
    (type_name lower) (type_name upper)) l.ancestors) (take l.lower-index l.lowers)
