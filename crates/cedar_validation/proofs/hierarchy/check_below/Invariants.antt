use Rattle.cedar_validation.proofs.Checking.{Checking}
use Rattle.cedar_validation.proofs.hierarchy.check_below.Given as goal
use Rattle.cedar_validation.specs.Words.{EntityType, IsKindSound, StandsAt, ValidatorEntityType, entity_type_of}

abbrev pub invariant-loop-lower : goal.invariant-loop-lower
invariant-loop-lower l =
    Checking (λ (lower : EntityType). (below : ValidatorEntityType) → StandsAt l.parts lower below
    → IsKindSound (entity_type_of below).kind (entity_type_of l.above).kind) l.above.descendants.keys l.lower-iterator
