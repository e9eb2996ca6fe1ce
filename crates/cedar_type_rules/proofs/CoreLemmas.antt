-- A type has no core type exactly where one that lacks it stands in it.
use Rattle.std.proofs.Common.{◌≡◌, ◌⊎◌, inl, inr, refl, ap, Option, Some, None}
use Rattle.std.specs.Option.{option_map, option_zip}
use Rattle.cedar_type_rules.specs.Words.{CoreIsLackedExactly, Fields, LacksCore, StandsIn, StandsInFields, Ty, any_entity, core_entity, core_field, core_fields, core_of, core_record, core_set, end, field, is_open, never, only_name, record_of, set_of, union_of}

-- where a function of a value gives none, there is no value
unmapped : {A B : Type 0} (f : A → B) (found : Option A) → option_map f found ≡ None → found ≡ None
unmapped f None e = refl
unmapped f (Some x) e = absurd cc

-- two values aren't both there: one isn't
unzipped : {A B : Type 0} (first : Option A) (second : Option B) → option_zip first second ≡ None → (first ≡ None) ⊎ (second ≡ None)
unzipped None second e = inl refl
unzipped (Some x) None e = inr refl
unzipped (Some x) (Some y) e = absurd cc

-- without the first there aren't both
zip-first : {A B : Type 0} (first : Option A) (second : Option B) → first ≡ None → option_zip first second ≡ None
zip-first None second e = refl
zip-first (Some x) second e = absurd cc

-- without the second there aren't both
zip-second : {A B : Type 0} (first : Option A) (second : Option B) → second ≡ None → option_zip first second ≡ None
zip-second None second e = refl
zip-second (Some x) None e = refl
zip-second (Some x) (Some y) e = absurd cc

mutual
  -- where there is no core type, one that lacks it stands in the type
  lacked : (ty : Ty) → core_of ty ≡ None → StandsIn LacksCore ty
  lacked never e = tt
  lacked any_entity e = tt
  lacked (union_of names) e = unmapped core_entity (only_name names) e
  lacked (set_of ty) e = inr (lacked ty (unmapped core_set (core_of ty) e))
  lacked (record_of fields openness) e =
      inr (lacked_fields fields (unmapped (λ core. core_record core (is_open openness)) (core_fields fields) e))
  lacked ty e = absurd cc

  -- where the attributes have no core types, one that lacks it stands in them
  lacked_fields : (fields : Fields) → core_fields fields ≡ None → StandsInFields LacksCore fields
  lacked_fields end e = absurd cc
  lacked_fields (field name required ty rest) e =
      elim (unzipped (core_of ty) (core_fields rest) (unmapped (λ both. core_field name required both.0 both.1)
      (option_zip (core_of ty) (core_fields rest)) e)) [
        | inl none ↦ inl (lacked ty none)
        | inr none ↦ inr (lacked_fields rest none)
      ]

mutual
  -- where one that lacks a core type stands in a type, it has none
  lacking : (ty : Ty) → StandsIn LacksCore ty → core_of ty ≡ None
  lacking never stands = refl
  lacking any_entity stands = refl
  lacking (union_of names) stands = ap (option_map core_entity) stands
  lacking (set_of ty) (inl none) = elim none [ ]
  lacking (set_of ty) (inr stands) = ap (option_map core_set) (lacking ty stands)
  lacking (record_of fields openness) (inl none) = elim none [ ]
  lacking (record_of fields openness) (inr stands) =
      ap (option_map (λ core. core_record core (is_open openness))) (lacking_fields fields stands)
  lacking ty stands = elim stands [ ]

  -- where one stands in attributes, they have none
  lacking_fields : (fields : Fields) → StandsInFields LacksCore fields → core_fields fields ≡ None
  lacking_fields end stands = elim stands [ ]
  lacking_fields (field name required ty rest) stands =
      ap (option_map (λ both. core_field name required both.0 both.1)) (elim stands [
        | inl here ↦ zip-first (core_of ty) (core_fields rest) (lacking ty here)
        | inr there ↦ zip-second (core_of ty) (core_fields rest) (lacking_fields rest there)
      ])

-- a type has no core type exactly where one that lacks it stands in it
pub core_lacked : CoreIsLackedExactly
core_lacked ty = (lacked ty, lacking ty)
