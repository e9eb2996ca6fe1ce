use Rattle.std.proofs.Common.{map, Contains}
use Rattle.std.specs.Map.Iter.{deref}
use Rattle.cedar_builder.proofs.entity_type_checks.check_below.Given as goal
use Rattle.cedar_builder.specs.Words.{EntityType, IsExternalAt, node_at}

abbrev pub invariant-loop-lower : goal.invariant-loop-lower
invariant-loop-lower l = (lower : EntityType) → Contains (map deref l.yielded) lower → ¬ IsExternalAt (node_at l.nodes.entries lower)
