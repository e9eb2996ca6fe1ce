use Rattle.std.proofs.Common.{◌≡◌, length, take, vec_len}
use Rattle.std.specs.Map.{keys_of}
use Rattle.cedar_graph.proofs.table_linking.places_of_edges.Given as goal
use Rattle.cedar_graph.specs.Words.{AreTargetsOf}

abbrev pub invariant-loop-edge : goal.invariant-loop-edge
invariant-loop-edge g l = record {
  len : vec_len l.targets ≡ length l.nodes.entries;
  targets : AreTargetsOf g.K.PartialEq.eq (keys_of l.nodes.entries) (take l.edge-index l.edges) l.targets.items;
}
