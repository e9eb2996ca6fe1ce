-- The sizes of plain types.
use Rattle.std.proofs.Common.{◌<◌, ◌+◌, ℕ, Bool, arith, inl, inr}
use Rattle.cedar_counterexample.specs.Words.{Fields, HasField, Text, Ty, end, field, record_of, set_of}

abbrev mutual
  -- how many parts a type has
  pub ty_size : Ty → ℕ
  ty_size (set_of ty) = ty_size ty + 2
  ty_size (record_of fields openness) = fields_size fields + 5
  ty_size _ = 0

  -- how many the types of attributes have
  pub fields_size : Fields → ℕ
  fields_size end = 0
  fields_size (field text required ty rest) = ty_size ty + fields_size rest + 1

-- the type of an attribute has fewer parts than all
pub attribute_smaller : (fields : Fields) (name : Text) (required : Bool) (ty : Ty) → HasField fields name required ty
    → ty_size ty < fields_size fields
attribute_smaller end name required ty has = absurd has
attribute_smaller (field other flag of rest) name required ty has =
    elim has [
      | inl same ↦ rw (← same.2) (omega arith)
      | inr there ↦ let less = attribute_smaller rest name required ty there in omega (arith, less)
    ]
