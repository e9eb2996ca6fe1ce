-- Types that have nothing above both, and what a bound of two records says of a name.
use Rattle.std.proofs.Common.{◌≡◌, ◌⊎◌, inl, inr, Bool, true, false, refl, sym, ◌∙◌}
use Rattle.std.proofs.lemmas.Slice.Eq.{bytes_eq-Decides}
use Rattle.std.specs.Str.{bytes_eq}
use Rattle.cedar_type_rules.proofs.SubtypeLaws.{HasBelow-of}
use Rattle.cedar_type_rules.specs.Words.{Below, BoolType, Fields, FieldsBelow, HasField, Permissive, Text, Ty, ValidationMode, any_set, end, field, long, text, truth}

-- texts that a test tells apart differ
pub texts_differ : (a b : Text) → bytes_eq a b ≡ false → ¬ (a ≡ b)
texts_differ a b unequal e =
    let equal : bytes_eq a b ≡ true = (bytes_eq-Decides a b).1 e in
    absurd (let both : true ≡ false = sym equal ∙ unequal in cc)

-- nothing is above both types, in a mode
abbrev pub AreApart : ValidationMode → Ty → Ty → Type 0
AreApart mode a b = (bound : Ty) → Below mode a bound → ¬ Below mode b bound

-- a truth value and a text are apart
pub AreApart-truth_text : (mode : ValidationMode) (known : BoolType) → AreApart mode (truth known) text
AreApart-truth_text mode known (truth b) h k = k
AreApart-truth_text mode known bound h k = elim h [ ]

-- a truth value and a whole number are apart
pub AreApart-truth_long : (mode : ValidationMode) (known : BoolType) → AreApart mode (truth known) long
AreApart-truth_long mode known (truth b) h k = k
AreApart-truth_long mode known bound h k = elim h [ ]

-- the any-set and a whole number are apart
pub AreApart-any_set_long : (mode : ValidationMode) → AreApart mode any_set long
AreApart-any_set_long mode any_set h k = k
AreApart-any_set_long mode bound h k = elim h [ ]

-- a record has at most one type at a name
abbrev pub HasOnly : Fields → Text → Ty → Type 0
HasOnly fields name ty = (required : Bool) (of : Ty) → HasField fields name required of → of ≡ ty

-- no attribute of a record above two others has a name at which their types are apart
pub unnamed : (mode : ValidationMode) (a b fields : Fields) (name : Text) (first second : Ty) → HasOnly a name first
    → HasOnly b name second → AreApart mode first second → FieldsBelow mode a fields → FieldsBelow mode b fields
    → (required : Bool) (ty : Ty) → ¬ HasField fields name required ty
unnamed mode a b fields name first second one other apart h k required ty has =
    let own = HasBelow-of mode a fields name required ty h has in
    let also = HasBelow-of mode b fields name required ty k has in
    let same : own.1 ≡ first = one own.0 own.1 own.2 in
    let alike : also.1 ≡ second = other also.0 also.1 also.2 in
    apart ty (rw same at own.4) (rw alike at also.4)

-- a record has one attribute of a name, required and of that type, and beside it one of another
-- name at most
abbrev pub IsPair : Fields → Text → Text → Ty → Ty → Type 0
IsPair fields kept dropped ty other =
    (name : Text) (required : Bool) (of : Ty) → HasField fields name required of
    → ((kept ≡ name) × (required ≡ true) × (of ≡ ty)) ⊎ ((dropped ≡ name) × (of ≡ other))

-- what a pair has at the second name
pub IsPair-other : (fields : Fields) (kept dropped : Text) (ty other : Ty) → ¬ (kept ≡ dropped)
    → IsPair fields kept dropped ty other → HasOnly fields dropped other
IsPair-other fields kept dropped ty other differ pair required of has =
    elim (pair dropped required of has) [ inl same ↦ absurd (differ same.0) | inr same ↦ same.1 ]

-- attributes above a pair that don't have its second name are above its first attribute alone
pub kept_below : (a all fields : Fields) (kept dropped : Text) (ty other : Ty) → IsPair a kept dropped ty other
    → ((name : Text) (required : Bool) (of : Ty) → HasField fields name required of → HasField all name required of)
    → ((required : Bool) (of : Ty) → ¬ HasField all dropped required of)
    → FieldsBelow Permissive a all → FieldsBelow Permissive (field kept true ty end) fields
kept_below a all end kept dropped ty other pair within none h = tt
kept_below a all (field name required of rest) kept dropped ty other pair within none h =
    let here : HasField all name required of = within name required of (inl (refl, refl, refl)) in
    let own = HasBelow-of Permissive a all name required of h here in (
      elim (pair name own.0 own.1 own.2) [
        | inl same ↦ (true, ty, inl (same.0, refl, refl), (λ _. refl), rw same.2 at own.4)
        | inr same ↦ absurd (none required of (rw same.0 here))
      ],
      kept_below a all rest kept dropped ty other pair (λ n r t has. within n r t (inr has)) none h,
    )
