use Rattle.std.proofs.Common.{◌≡◌, ℕ, ◌*◌, ◌≤◌, length, vec_len}
use Rattle.cedar_graph.proofs.closing.closed_lists.Given as goal
use Rattle.cedar_graph.specs.Words.{AreClosed, Fresh, mark_of}

abbrev pub invariant-loop-from : goal.invariant-loop-from
invariant-loop-from l = record {
  marks : length l.marks.items ≡ l.columns;
  fresh : (number : ℕ) → mark_of l.marks.items number ≡ Fresh;
  len : vec_len l.closed ≡ l.from;
  closed : AreClosed l.targets.items l.closed.items;
  count : l.joins ≤ l.from * vec_len l.targets;
}
