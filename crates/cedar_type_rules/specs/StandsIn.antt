use Rattle.std.specs.Prelude.{◌⊎◌}
use Rattle.cedar_type_rules.specs.Ty.{Ty, set_of, record_of, Fields, end, field}

abbrev mutual
  -- a type of which a fact holds stands in a type: it is the type itself, or stands in its
  -- elements' or an attribute's
  pub StandsIn : (Ty → Type 0) → Ty → Type 0
  StandsIn P (set_of ty) = P (set_of ty) ⊎ StandsIn P ty
  StandsIn P (record_of fields openness) = P (record_of fields openness) ⊎ StandsInFields P fields
  StandsIn P ty = P ty

  -- it stands in the type of an attribute
  pub StandsInFields : (Ty → Type 0) → Fields → Type 0
  StandsInFields P end = ⊥
  StandsInFields P (field name required ty rest) = StandsIn P ty ⊎ StandsInFields P rest
