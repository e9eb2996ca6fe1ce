use Rattle.std.proofs.Common.{◌≡◌, ◌++◌, ◌≤◌, ℕ, List, length}
use Rattle.cedar_cycles.proofs.search.close.Given as goal
use Rattle.cedar_cycles.specs.Search.{IsMarked}

abbrev pub invariant-loop-mark : goal.invariant-loop-mark
invariant-loop-mark l = record {
  from : l.start ≤ length l.path.items;
  front : (rest : List ℕ) × (l.fn.path.items ≡ l.path.items ++ rest);
  marked : IsMarked l.mark (length l.path.items) l.fn.marks.items l.marks.items;
}

abbrev pub decreases-loop-mark : goal.decreases-loop-mark
decreases-loop-mark l = goal.left-loop-mark l
