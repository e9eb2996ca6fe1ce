use Rattle.std.proofs.Common.{◌≡◌, ℕ, ◌<◌}
use Rattle.std.specs.HashMap.{get, keys, ContainsKey}
use Rattle.cedar_graph.proofs.list_edges.add_all_edges.Given as goal
use Rattle.cedar_graph.specs.Words.{GrowsAt, HasEdge, IsNumbered, StandsIn, items_at}

abbrev pub invariant-loop-i : goal.invariant-loop-i
invariant-loop-i g l = record {
  keys : keys l.nodes ≡ keys l.initial.nodes;
  grows : (key : _) → GrowsAt g.V.TCNode.has_edge g.V.TCNode.is_alike (get g.K.PartialEq.eq l.initial.nodes key)
      (get g.K.PartialEq.eq l.nodes key)
      (λ to. (i : ℕ) × IsNumbered g.K.PartialEq.eq l.names.items key i
      × StandsIn g.K.PartialEq.eq l.names.items (items_at l.lists.items i) to);
  complete : (i : ℕ) (key to : _) → i < l.i → IsNumbered g.K.PartialEq.eq l.names.items key i
      → ContainsKey g.K.PartialEq.eq l.initial.nodes key
      → StandsIn g.K.PartialEq.eq l.names.items (items_at l.lists.items i) to
      → HasEdge g.K.PartialEq.eq g.V.TCNode.has_edge l.nodes key to;
}
