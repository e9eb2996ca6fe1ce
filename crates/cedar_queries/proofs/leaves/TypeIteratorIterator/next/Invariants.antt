use Rattle.std.proofs.Common.{◌≡◌, ◌≤◌}
use Rattle.cedar_queries.proofs.leaves.TypeIteratorIterator.next.Given as goal
use Rattle.cedar_queries.specs.Leaves.{leaves_of, part_count, shown_types}

abbrev pub invariant-loop-ty : goal.invariant-loop-ty
invariant-loop-ty l =
    (leaves_of (shown_types l.self.pending.items) ≡ leaves_of (shown_types l.initial.self.pending.items))
    × (part_count (shown_types l.self.pending.items) ≤ part_count (shown_types l.initial.self.pending.items))

abbrev pub decreases-loop-ty : goal.decreases-loop-ty
decreases-loop-ty l = part_count (shown_types l.self.pending.items)
