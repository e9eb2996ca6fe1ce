use Rattle.std.proofs.Common.{◌≡◌, ◌≢◌, ℕ, ◌<◌, ◌≤◌, get_or, length}
use Rattle.cedar_graph.proofs.closing.forget.Given as goal
use Rattle.cedar_graph.specs.Words.{Fresh, mark_of}

abbrev pub invariant-loop-number : goal.invariant-loop-number
invariant-loop-number l = record {
  len : length l.marks.items ≡ length l.initial.marks.items;
  left : (number : ℕ) → mark_of l.marks.items number ≢ Fresh
      → (k : ℕ) × (l.number-index ≤ k) × (k < length l.numbers) × (get_or l.numbers k 0 ≡ number);
}
