-- A type is clean exactly where the any-set stands nowhere in it.
use Rattle.std.proofs.Common.{inl, inr, refl}
use Rattle.cedar_type_rules.specs.Words.{AreClean, CleanIsWithoutAnySet, Fields, IsAnySet, IsClean, StandsIn, StandsInFields, Ty, any_set, end, field, record_of, set_of}

mutual
  -- in a clean type the any-set stands nowhere
  clean_without : (ty : Ty) → IsClean ty → ¬ StandsIn IsAnySet ty
  clean_without (set_of ty) clean (inl here) = absurd cc
  clean_without (set_of ty) clean (inr there) = clean_without ty clean there
  clean_without (record_of fields openness) clean (inl here) = absurd cc
  clean_without (record_of fields openness) clean (inr there) = clean_fields_without fields clean there
  clean_without any_set clean stands = clean
  clean_without ty clean stands = absurd cc

  -- in clean attributes the any-set stands nowhere
  clean_fields_without : (fields : Fields) → AreClean fields → ¬ StandsInFields IsAnySet fields
  clean_fields_without end clean stands = stands
  clean_fields_without (field name required ty rest) clean (inl here) = clean_without ty clean.0 here
  clean_fields_without (field name required ty rest) clean (inr there) = clean_fields_without rest clean.1 there

mutual
  -- a type in which the any-set stands nowhere is clean
  without_clean : (ty : Ty) → ¬ StandsIn IsAnySet ty → IsClean ty
  without_clean any_set none = none refl
  without_clean (set_of ty) none = without_clean ty (λ stands. none (inr stands))
  without_clean (record_of fields openness) none = without_clean_fields fields (λ stands. none (inr stands))
  without_clean ty none = tt

  -- attributes in which the any-set stands nowhere are clean
  without_clean_fields : (fields : Fields) → ¬ StandsInFields IsAnySet fields → AreClean fields
  without_clean_fields end none = tt
  without_clean_fields (field name required ty rest) none =
      (without_clean ty (λ stands. none (inl stands)), without_clean_fields rest (λ stands. none (inr stands)))

-- a type is clean exactly where the any-set stands nowhere in it
pub clean_exactly : CleanIsWithoutAnySet
clean_exactly ty = (clean_without ty, without_clean ty)
