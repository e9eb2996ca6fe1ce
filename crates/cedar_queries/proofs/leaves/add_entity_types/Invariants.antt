use Rattle.std.proofs.Common.{◌≡◌, ◌++◌}
use Rattle.cedar_queries.proofs.LeafLemmas.{types_of_each}
use Rattle.cedar_queries.proofs.leaves.add_entity_types.Given as goal
use Rattle.cedar_queries.specs.Leaves.{shown_types}

abbrev pub invariant-loop-ty : goal.invariant-loop-ty
invariant-loop-ty l =
    shown_types l.pending.items ++ types_of_each l.ty-iterator
    ≡ shown_types l.initial.pending.items ++ types_of_each l.initial.ty-iterator
