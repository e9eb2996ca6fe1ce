use Rattle.std.proofs.Common.{◌≡◌, ◌<◌, ◌≤◌, ℕ, vec_len, length, drop, IfSome, slice_get}
use Rattle.std.specs.Map.{keys_of, values_of}
use Rattle.cedar_graph.proofs.places.all_places.Given as goal
use Rattle.cedar_graph.specs.Words.{AreNumbersOf, items_at}

abbrev pub invariant-loop-node : goal.invariant-loop-node
invariant-loop-node g l = record {
  rest : l.node-iterator ≡ drop (vec_len l.targets) (values_of l.nodes.entries);
  bound : vec_len l.targets ≤ length (values_of l.nodes.entries);
  places : (i : ℕ) → i < vec_len l.targets → IfSome (slice_get (values_of l.nodes.entries) i)
      (λ node. AreNumbersOf g.K.PartialEq.eq (keys_of l.nodes.entries) (g.V.TCNode.has_edge node) (items_at l.targets.items i));
}
