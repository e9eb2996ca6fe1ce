use Rattle.std.proofs.Common.{◌≤◌, ◌<◌, ℕ, get_or, length}
use Rattle.cedar_cycles.proofs.search.merge.Given as goal
use Rattle.cedar_cycles.specs.declared.search.Group.{Group}

abbrev pub invariant-loop-kept : goal.invariant-loop-kept
invariant-loop-kept l = record {
  within : l.kept ≤ length l.groups.items;
  later : (k : ℕ) (group : Group) → l.kept ≤ k → k < length l.groups.items → l.place < (get_or l.groups.items k group).path;
}

abbrev pub decreases-loop-kept : goal.decreases-loop-kept
decreases-loop-kept l = l.kept
