use Rattle.std.proofs.Common.{map, Contains}
use Rattle.std.specs.Map.Iter.{deref_pair}
use Rattle.cedar_builder.proofs.entity_type_checks.check_descendants.Given as goal
use Rattle.cedar_builder.specs.Words.{EntityType, IsEnumerated, IsExternalAt, ValidatorEntityType, entity_type_of, node_at}

abbrev pub invariant-loop-name : goal.invariant-loop-name
invariant-loop-name l =
    (upper : EntityType) (it : ValidatorEntityType) → Contains (map deref_pair l.yielded) (upper, it)
    → IsEnumerated (entity_type_of it).kind → (lower : EntityType) → Contains it.descendants.keys lower
    → ¬ IsExternalAt (node_at l.nodes.entries lower)
