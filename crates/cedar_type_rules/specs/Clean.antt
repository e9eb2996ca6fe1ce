use Rattle.std.specs.Prelude.{◌≡◌, ◌↔◌}
use Rattle.cedar_type_rules.specs.StandsIn.{StandsIn}
use Rattle.cedar_type_rules.specs.Ty.{Ty, any_set, set_of, record_of, Fields, end, field}

abbrev mutual
  -- a type is clean: the any-set stands nowhere in it
  pub IsClean : Ty → Type 0
  IsClean any_set = ⊥
  IsClean (set_of ty) = IsClean ty
  IsClean (record_of fields openness) = AreClean fields
  IsClean _ = Unit {0}

  -- the type of each attribute is clean
  pub AreClean : Fields → Type 0
  AreClean end = Unit {0}
  AreClean (field name required ty rest) = IsClean ty × AreClean rest

-- a type is the any-set
abbrev pub IsAnySet : Ty → Type 0
IsAnySet ty = ty ≡ any_set

-- a type is clean exactly where the any-set stands nowhere in it
abbrev pub CleanIsWithoutAnySet : Type 0
CleanIsWithoutAnySet = (ty : Ty) → IsClean ty ↔ ¬ StandsIn IsAnySet ty
