use Rattle.std.proofs.Common.{take, Contains}
use Rattle.cedar_builder.proofs.entity_type_checks.check_edges.Given as goal
use Rattle.cedar_builder.specs.Words.{EntityType, IsEdgeSound}

abbrev pub invariant-loop-edge : goal.invariant-loop-edge
invariant-loop-edge l = (edge : EntityType × EntityType) → Contains (take l.edge-index l.edges) edge → IsEdgeSound l.nodes.entries edge.1 edge.0
