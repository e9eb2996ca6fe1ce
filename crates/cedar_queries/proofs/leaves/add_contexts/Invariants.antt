use Rattle.std.proofs.Common.{◌≡◌, ◌++◌}
use Rattle.cedar_queries.proofs.LeafLemmas.{contexts_of_each}
use Rattle.cedar_queries.proofs.leaves.add_contexts.Given as goal
use Rattle.cedar_queries.specs.Leaves.{shown_types}

abbrev pub invariant-loop-action : goal.invariant-loop-action
invariant-loop-action l =
    shown_types l.pending.items ++ contexts_of_each l.action-iterator
    ≡ shown_types l.initial.pending.items ++ contexts_of_each l.initial.action-iterator
