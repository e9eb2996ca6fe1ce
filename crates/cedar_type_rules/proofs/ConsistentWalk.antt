-- Steps of a walk over two records that tells whether they are consistent.
use Rattle.std.proofs.Common.{◌≡◌, ◌⊎◌, ◌↔◌, inl, inr, refl, sym, Bool, false, List, [], ◌∷◌, ◌++◌, Contains, arith}
use Rattle.std.specs.List.{AllByRecursion}
use Rattle.cedar_ast.proofs.Lists.{Contains-cons, Contains-cons_cases}
use Rattle.cedar_type_rules.proofs.SubtypeLaws.{HasField-name}
use Rattle.cedar_type_rules.specs.Words.{AreOptionalBeyond, CoreFields, CoreTy, Fields, FieldsAreConsistent, HasCoreField, HasField, IsConsistent, Text, Ty, core_end, core_field, core_names, end, field, field_names, fields_from}

-- the attributes of two records are consistent, where the one may have others if this holds, and
-- the other if that does
abbrev pub AreConsistent : Fields → CoreFields → Type 0 → Type 0 → Type 0
AreConsistent fields core IsOpen IsCoreOpen =
    FieldsAreConsistent fields core
    × AreOptionalBeyond (λ name required. (ty : Ty) × HasField fields name required ty) (core_names core) IsCoreOpen
    × AreOptionalBeyond (λ name required. (of : CoreTy) × HasCoreField core name required of) (field_names fields) IsOpen

-- an attribute has one of the names
HasCoreField-name : (core : CoreFields) (name : Text) (required : Bool) (of : CoreTy) → HasCoreField core name required of
    → Contains (core_names core) name
HasCoreField-name core_end name required of has = absurd has
HasCoreField-name (core_field other flag ty rest) name required of has =
    Contains-cons other (core_names rest) name
    (elim has [ inl same ↦ inl same.0 | inr there ↦ inr (HasCoreField-name rest name required of there) ])

-- what isn't among some names isn't among them where another comes first
not_cons : (first : Text) (names : List Text) (name : Text) → ¬ (first ≡ name) → ¬ Contains names name → ¬ Contains (first ∷ names) name
not_cons first names name apart fresh among = elim (Contains-cons_cases first names name among) [
  | inl left ↦ apart left
  | inr right ↦ fresh right
]

module _ (IsOpen IsCoreOpen : Type 0) where
  -- an attribute whose name the other record lacks may be missing there
  pub consistent-own : (name : Text) (required : Bool) (ty : Ty) (rest : Fields) (core : CoreFields) → ¬ Contains (core_names core) name
      → (((required ≡ false) ⊎ IsCoreOpen) × AreConsistent rest core IsOpen IsCoreOpen)
      ↔ AreConsistent (field name required ty rest) core IsOpen IsCoreOpen
  consistent-own name required ty rest core fresh = (
    λ parts. (
      ((λ flag of has. absurd (fresh (HasCoreField-name core name flag of has))), parts.1.0),
      (λ other flag has out.
          elim has.1 [
            | inl same ↦ rw same.1 at parts.0
            | inr there ↦ parts.1.1 other flag (has.0, there) out
          ]),
      (λ other flag has out. parts.1.2 other flag has (λ among. out (Contains-cons name (field_names rest) other (inr among)))),
    ),
    λ whole. (
      whole.1 name required (ty, inl (refl, refl, refl)) fresh,
      (
        whole.0.1,
        (λ other flag has out. whole.1 other flag (has.0, inr has.1) out),
        (λ other flag has out. whole.2 other flag has (not_cons name (field_names rest) other
            (λ same. fresh (rw same (HasCoreField-name core other flag has.0 has.1))) out)),
      ),
    ),
  )

  -- attributes are consistent with others and one more, whose name they lack, where they are with
  -- the others
  with_one_more : (fields : Fields) (name : Text) (required : Bool) (of : CoreTy) (rest : CoreFields) → ¬ Contains (field_names fields) name
      → FieldsAreConsistent fields rest → FieldsAreConsistent fields (core_field name required of rest)
  with_one_more end name required of rest fresh all = tt
  with_one_more (field own flag ty fields) name required of rest fresh all = (
    λ r c has.
        elim has [
          | inl same ↦ absurd (fresh (Contains-cons own (field_names fields) name (inl (sym same.0))))
          | inr there ↦ all.0 r c there
        ],
    with_one_more fields name required of rest (λ among. fresh (Contains-cons own (field_names fields) name (inr among))) all.1,
  )

  -- and with the others where they are with one more
  without_one : (fields : Fields) (name : Text) (required : Bool) (of : CoreTy) (rest : CoreFields)
      → FieldsAreConsistent fields (core_field name required of rest) → FieldsAreConsistent fields rest
  without_one end name required of rest all = tt
  without_one (field own flag ty fields) name required of rest all =
      ((λ r c has. all.0 r c (inr has)), without_one fields name required of rest all.1)

  -- an attribute of the other record whose name the one lacks may be missing there
  pub consistent-other : (fields : Fields) (name : Text) (required : Bool) (of : CoreTy) (rest : CoreFields)
      → ¬ Contains (field_names fields) name → (((required ≡ false) ⊎ IsOpen) × AreConsistent fields rest IsOpen IsCoreOpen)
      ↔ AreConsistent fields (core_field name required of rest) IsOpen IsCoreOpen
  consistent-other fields name required of rest fresh = (
    λ parts. (
      with_one_more fields name required of rest fresh parts.1.0,
      (λ other flag has out. parts.1.1 other flag has (λ among. out (Contains-cons name (core_names rest) other (inr among)))),
      (λ other flag has out.
          elim has.1 [
            | inl same ↦ rw same.1 at parts.0
            | inr there ↦ parts.1.2 other flag (has.0, there) out
          ]),
    ),
    λ whole. (
      whole.2 name required (of, inl (refl, refl, refl)) fresh,
      (
        without_one fields name required of rest whole.0,
        (λ other flag has out. whole.1 other flag has (not_cons name (core_names rest) other
            (λ same. fresh (rw same (HasField-name fields other flag has.0 has.1))) out)),
        (λ other flag has out. whole.2 other flag (has.0, inr has.1) out),
      ),
    ),
  )

  -- two attributes of one name are of consistent types
  pub consistent-both : (name : Text) (required : Bool) (ty : Ty) (fields : Fields) (flag : Bool) (of : CoreTy) (rest : CoreFields)
      → ¬ Contains (field_names fields) name → ¬ Contains (core_names rest) name
      → (IsConsistent ty of × AreConsistent fields rest IsOpen IsCoreOpen)
      ↔ AreConsistent (field name required ty fields) (core_field name flag of rest) IsOpen IsCoreOpen
  consistent-both name required ty fields flag of rest fresh core_fresh = (
    λ parts. (
      (
        (λ r c has.
            elim has [
              | inl same ↦ rw same.2 at parts.0
              | inr there ↦ absurd (core_fresh (HasCoreField-name rest name r c there))
            ]),
        with_one_more fields name flag of rest fresh parts.1.0,
      ),
      (λ other r has out.
          elim has.1 [
            | inl same ↦ absurd (out (Contains-cons name (core_names rest) other (inl same.0)))
            | inr there ↦
                parts.1.1 other r (has.0, there) (λ among. out (Contains-cons name (core_names rest) other (inr among)))
          ]),
      (λ other r has out.
          elim has.1 [
            | inl same ↦ absurd (out (Contains-cons name (field_names fields) other (inl same.0)))
            | inr there ↦
                parts.1.2 other r (has.0, there) (λ among. out (Contains-cons name (field_names fields) other (inr among)))
          ]),
    ),
    λ whole. (
      whole.0.0 flag of (inl (refl, refl, refl)),
      (
        without_one fields name flag of rest whole.0.1,
        (λ other r has out. whole.1 other r (has.0, inr has.1) (not_cons name (core_names rest) other
            (λ same. fresh (rw same (HasField-name fields other r has.0 has.1))) out)),
        (λ other r has out. whole.2 other r (has.0, inr has.1) (not_cons name (field_names fields) other
            (λ same. core_fresh (rw same (HasCoreField-name rest other r has.0 has.1))) out)),
      ),
    ),
  )

  -- an attribute may be missing in the other record
  abbrev pub MayBeMissing : Text × (Bool × Ty) → Type 0
  MayBeMissing item = (item.1.0 ≡ false) ⊎ IsCoreOpen

  -- attributes in front whose names the other record lacks may be missing there
  pub consistent-front : (front rest : List (Text × (Bool × Ty))) (core : CoreFields)
      → AllByRecursion (λ item. ¬ Contains (core_names core) item.0) front
      → (AllByRecursion MayBeMissing front × AreConsistent (fields_from rest) core IsOpen IsCoreOpen)
      ↔ AreConsistent (fields_from (front ++ rest)) core IsOpen IsCoreOpen
  consistent-front [] rest core fresh = (λ both. both.1, λ whole. (tt, whole))
  consistent-front (item ∷ front) rest core fresh =
      let first = consistent-own item.0 item.1.0 item.1.1 (fields_from (front ++ rest)) core fresh.0 in
      let others = consistent-front front rest core fresh.1 in (
        λ both. first.0 (both.0.0, others.0 (both.0.1, both.1)),
        λ whole. let parts = first.1 whole in let back = others.1 parts.1 in ((parts.0, back.0), back.1),
      )

  -- where the other record has no more attributes, those that are left may be missing there
  pub consistent-left : (items : List (Text × (Bool × Ty)))
      → AllByRecursion MayBeMissing items ↔ AreConsistent (fields_from items) core_end IsOpen IsCoreOpen
  consistent-left [] = (λ _. (tt, (λ name flag has out. absurd has.1), (λ name flag has out. absurd has.1)), λ _. tt)
  consistent-left (item ∷ items) =
      let first = consistent-own item.0 item.1.0 item.1.1 (fields_from items) core_end (λ among. absurd (omega (arith, among.1))) in
      let others = consistent-left items in
      (λ all. first.0 (all.0, others.0 all.1), λ whole. let parts = first.1 whole in (parts.0, others.1 parts.1))
