use Rattle.std.proofs.Common.{◌≡◌, ℕ, vec_len}
use Rattle.cedar_diagnosis.proofs.cycles.empty_lists.Given as goal
use Rattle.cedar_graph.specs.Words.{IsTarget}

abbrev pub invariant-loop-place : goal.invariant-loop-place
invariant-loop-place l = record {
  len : vec_len l.lists ≡ l._place;
  empty : (i j : ℕ) → ¬ IsTarget l.lists.items i j;
}
