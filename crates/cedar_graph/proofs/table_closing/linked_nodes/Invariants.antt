use Rattle.std.proofs.Common.{◌≡◌, ◌<◌, ◌≤◌, ℕ, Some, length, slice_get}
use Rattle.cedar_graph.proofs.table_closing.linked_nodes.Given as goal
use Rattle.cedar_graph.specs.Words.{IsGrown, StandsIn, items_at}

abbrev pub invariant-loop-place : goal.invariant-loop-place
invariant-loop-place g l = record {
  len : length l.linked.items ≡ length l.fn.nodes.items;
  before : (i : ℕ) (x y : g.row.V.Denot) → i < l.place → slice_get l.fn.nodes.items i ≡ Some x → slice_get l.linked.items i ≡ Some y
      → IsGrown g.V.TCNode.has_edge g.V.TCNode.is_alike (StandsIn g.K.PartialEq.eq l.keys.items (items_at l.lists.items i)) x y;
  after : (i : ℕ) → l.place ≤ i → slice_get l.linked.items i ≡ slice_get l.fn.nodes.items i;
}
