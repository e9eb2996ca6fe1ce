-- Own bounds: clean bounds are own bounds, and what lies within clean types is clean.
use Rattle.std.proofs.Common.{inl, inr, refl, Bool}
use Rattle.cedar_type_rules.specs.Words.{AreClean, Fields, FieldsLieWithin, HasField, IsClean, IsElementOf, IsNamedIn, LiesWithin, Text, Ty, any_set, end, field, record_of, set_of}

mutual
  -- a clean type lies within whatever types
  pub LiesWithin-clean : (Among : Ty → Type 0) (ty : Ty) → IsClean ty → LiesWithin Among ty
  LiesWithin-clean Among any_set clean = elim clean [ ]
  LiesWithin-clean Among (set_of ty) clean = LiesWithin-clean (IsElementOf Among) ty clean
  LiesWithin-clean Among (record_of fields openness) clean = FieldsLieWithin-clean Among fields clean
  LiesWithin-clean Among ty clean = tt

  -- the types of clean attributes lie within whatever types
  FieldsLieWithin-clean : (Among : Ty → Type 0) (fields : Fields) → AreClean fields → FieldsLieWithin Among fields
  FieldsLieWithin-clean Among end clean = tt
  FieldsLieWithin-clean Among (field name required ty rest) clean =
      (LiesWithin-clean (IsNamedIn Among name) ty clean.0, FieldsLieWithin-clean Among rest clean.1)

-- the type of an attribute of clean ones is clean
pub AreClean-of : (fields : Fields) (name : Text) (required : Bool) (ty : Ty) → AreClean fields → HasField fields name required ty → IsClean ty
AreClean-of end name required ty clean has = absurd has
AreClean-of (field other flag of rest) name required ty clean (inl same) = rw same.2 at clean.0
AreClean-of (field other flag of rest) name required ty clean (inr there) = AreClean-of rest name required ty clean.1 there

mutual
  -- what lies within clean types is clean
  pub IsClean-within : (Among : Ty → Type 0) (ty : Ty) → ((of : Ty) → Among of → IsClean of) → LiesWithin Among ty → IsClean ty
  IsClean-within Among any_set clean within = clean any_set within
  IsClean-within Among (set_of ty) clean within =
      IsClean-within (IsElementOf Among) ty (λ of among. clean (set_of of) among) within
  IsClean-within Among (record_of fields openness) clean within = AreClean-within Among fields clean within
  IsClean-within Among ty clean within = tt

  -- attributes whose types lie within clean types are clean
  AreClean-within : (Among : Ty → Type 0) (fields : Fields) → ((of : Ty) → Among of → IsClean of)
      → FieldsLieWithin Among fields → AreClean fields
  AreClean-within Among end clean within = tt
  AreClean-within Among (field name required ty rest) clean within = (
    IsClean-within (IsNamedIn Among name) ty
        (λ of among. AreClean-of among.0 name among.2 of (clean (record_of among.0 among.1) among.3) among.4)
        within.0,
    AreClean-within Among rest clean within.1,
  )

mutual
  -- what lies within some types lies within more
  pub LiesWithin-more : (Among More : Ty → Type 0) (ty : Ty) → ((of : Ty) → Among of → More of) → LiesWithin Among ty → LiesWithin More ty
  LiesWithin-more Among More any_set more within = more any_set within
  LiesWithin-more Among More (set_of ty) more within =
      LiesWithin-more (IsElementOf Among) (IsElementOf More) ty (λ of among. more (set_of of) among) within
  LiesWithin-more Among More (record_of fields openness) more within = FieldsLieWithin-more Among More fields more within
  LiesWithin-more Among More ty more within = tt

  -- attributes whose types lie within some types lie within more
  FieldsLieWithin-more : (Among More : Ty → Type 0) (fields : Fields) → ((of : Ty) → Among of → More of)
      → FieldsLieWithin Among fields → FieldsLieWithin More fields
  FieldsLieWithin-more Among More end more within = tt
  FieldsLieWithin-more Among More (field name required ty rest) more within = (
    LiesWithin-more (IsNamedIn Among name) (IsNamedIn More name) ty
        (λ of among. (among.0, among.1, among.2, more (record_of among.0 among.1) among.3, among.4))
        within.0,
    FieldsLieWithin-more Among More rest more within.1,
  )

mutual
  -- a type lies within types that have it
  pub LiesWithin-among : (Among : Ty → Type 0) (ty : Ty) → Among ty → LiesWithin Among ty
  LiesWithin-among Among any_set among = among
  LiesWithin-among Among (set_of ty) among = LiesWithin-among (IsElementOf Among) ty among
  LiesWithin-among Among (record_of fields openness) among =
      FieldsLieWithin-among Among fields (λ name required ty has. (fields, openness, required, among, has))
  LiesWithin-among Among ty among = tt

  -- the attributes of a record lie within types that have it
  FieldsLieWithin-among : (Among : Ty → Type 0) (fields : Fields)
      → ((name : Text) (required : Bool) (ty : Ty) → HasField fields name required ty → IsNamedIn Among name ty)
      → FieldsLieWithin Among fields
  FieldsLieWithin-among Among end among = tt
  FieldsLieWithin-among Among (field name required ty rest) among = (
    LiesWithin-among (IsNamedIn Among name) ty (among name required ty (inl (refl, refl, refl))),
    FieldsLieWithin-among Among rest (λ other flag of has. among other flag of (inr has)),
  )
