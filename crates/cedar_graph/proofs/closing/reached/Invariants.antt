use Rattle.std.proofs.Common.{◌≡◌, ℕ, ◌+◌, ◌-◌, ◌<◌, ◌≤◌, Contains, get_or, length, vec_len}
use Rattle.cedar_graph.proofs.Counting.{count_below}
use Rattle.cedar_graph.proofs.Gathering.{is_undone}
use Rattle.cedar_graph.proofs.closing.reached.Given as goal
use Rattle.cedar_graph.specs.Words.{AreReached, IsTarget}

abbrev pub invariant-loop-place : goal.invariant-loop-place
invariant-loop-place l = record {
  len : length l.marks.items ≡ length l.fn.marks.items;
  are : AreReached l.targets.items l.from l.marks.items l.found.items;
  within : l.place ≤ length l.found.items;
  passed : (k to : ℕ) → k < l.place → IsTarget l.targets.items (get_or l.found.items k 0) to → Contains l.found.items to;
  count : l.joins + count_below (is_undone l.marks.items) (vec_len l.targets) ≤ vec_len l.targets;
}

abbrev pub decreases-loop-place : goal.decreases-loop-place
decreases-loop-place l = length l.marks.items - l.place
