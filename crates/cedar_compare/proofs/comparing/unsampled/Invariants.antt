use Rattle.cedar_compare.proofs.LeftLemmas.{SureSoFar}
use Rattle.cedar_compare.proofs.comparing.unsampled.Given as goal
use Rattle.cedar_compare.specs.Words.{IsLeafSampled, leaves_of, pending_types, schema_leaves, schema_of, value_trees}

abbrev pub invariant-loop-ty : goal.invariant-loop-ty
invariant-loop-ty l =
    SureSoFar (IsLeafSampled l.extensions (value_trees l.samples) (schema_of l.schema))
    (schema_leaves (schema_of l.schema).entity_types (schema_of l.schema).actions) (leaves_of (pending_types l.ty-iterator))
