-- What a least own bound of two records is at a name, and of two sets at their elements.
use Rattle.std.proofs.Common.{◌≡◌, ◌⊎◌, inl, inr, Bool, true, false, refl, sym, ◌∙◌, if◌then◌else◌, ◌∷◌}
use Rattle.std.proofs.lemmas.Slice.Eq.{bytes_eq-Decides}
use Rattle.std.specs.Str.{bytes_eq}
use Rattle.cedar_type_rules.proofs.AgreeLaws.{HasField-once}
use Rattle.cedar_type_rules.proofs.OwnBoundLemmas.{LiesWithin-more}
use Rattle.cedar_type_rules.proofs.SubtypeLaws.{HasBelow-of}
use Rattle.cedar_type_rules.proofs.SubtypeLemmas.{HasBelow, chosen_first}
use Rattle.cedar_type_rules.specs.Words.{Below, Fields, FieldsBelow, FieldsLieWithin, HasField, Included, IsEither, IsElementOf, IsLeastOwnBound, IsNamedIn, IsOwnBound, IsSortedByName, LiesWithin, OpenTag, Strict, Text, Ty, ValidationMode, end, field, field_names, record_of, set_of}

-- attributes are below others if there is one below each of those
pub FieldsBelow-from : (mode : ValidationMode) (lower upper : Fields)
    → ((name : Text) (required : Bool) (ty : Ty) → HasField upper name required ty
    → HasBelow mode lower name required ty) → FieldsBelow mode lower upper
FieldsBelow-from mode lower end each = tt
FieldsBelow-from mode lower (field name required ty rest) each =
    (each name required ty (inl (refl, refl, refl)), FieldsBelow-from mode lower rest (λ n r t has. each n r t (inr has)))

-- attributes lie within some types if the type of each does
pub FieldsLieWithin-from : (Among : Ty → Type 0) (fields : Fields)
    → ((name : Text) (required : Bool) (ty : Ty) → HasField fields name required ty
    → LiesWithin (IsNamedIn Among name) ty) → FieldsLieWithin Among fields
FieldsLieWithin-from Among end each = tt
FieldsLieWithin-from Among (field name required ty rest) each =
    (each name required ty (inl (refl, refl, refl)), FieldsLieWithin-from Among rest (λ n r t has. each n r t (inr has)))

-- of attributes that lie within some types the type of each does
pub FieldsLieWithin-of : (Among : Ty → Type 0) (fields : Fields) (name : Text) (required : Bool) (ty : Ty)
    → FieldsLieWithin Among fields → HasField fields name required ty → LiesWithin (IsNamedIn Among name) ty
FieldsLieWithin-of Among end name required ty within has = absurd has
FieldsLieWithin-of Among (field other flag of rest) name required ty within (inl same) = rw (same.2, same.0) at within.0
FieldsLieWithin-of Among (field other flag of rest) name required ty within (inr there) =
    FieldsLieWithin-of Among rest name required ty within.1 there

-- what lies within the types of a name of two records lies within the two types that they have
-- there
pub within_both : (fa fb : Fields) (ta tb : OpenTag) (name : Text) (ra rb : Bool) (a b ty : Ty) → IsSortedByName fa
    → IsSortedByName fb → HasField fa name ra a → HasField fb name rb b
    → LiesWithin (IsNamedIn (IsEither (record_of fa ta) (record_of fb tb)) name) ty → LiesWithin (IsEither a b) ty
within_both fa fb ta tb name ra rb a b ty first second has also =
    LiesWithin-more (IsNamedIn (IsEither (record_of fa ta) (record_of fb tb)) name) (IsEither a b) ty
    (λ of named. elim named.3 [
      | inl e ↦
          inl (let same : named.0 ≡ fa = cc in
          (HasField-once fa name named.2 ra of a first (rw same at named.4) has).1)
      | inr e ↦
          inr (let same : named.0 ≡ fb = cc in
          (HasField-once fb name named.2 rb of b second (rw same at named.4) also).1)
    ])

-- what lies within the two types that two records have at a name lies within their types of that
-- name
pub within_named : (fa fb : Fields) (ta tb : OpenTag) (name : Text) (ra rb : Bool) (a b ty : Ty) → HasField fa name ra a
    → HasField fb name rb b → LiesWithin (IsEither a b) ty → LiesWithin (IsNamedIn (IsEither (record_of fa ta) (record_of fb tb)) name) ty
within_named fa fb ta tb name ra rb a b ty has also =
    LiesWithin-more (IsEither a b) (IsNamedIn (IsEither (record_of fa ta) (record_of fb tb)) name) ty
    (λ of either. elim either [
      | inl e ↦ (fa, ta, ra, inl refl, rw e has)
      | inr e ↦ (fb, tb, rb, inr refl, rw e also)
    ])

-- what lies within two sets lies within their elements
pub within_elements : (a b ty : Ty) → LiesWithin (IsElementOf (IsEither (set_of a) (set_of b))) ty → LiesWithin (IsEither a b) ty
within_elements a b ty =
    LiesWithin-more (IsElementOf (IsEither (set_of a) (set_of b))) (IsEither a b) ty
    (λ of either. elim either [ inl e ↦ inl (let same : of ≡ a = cc in same) | inr e ↦ inr (let same : of ≡ b = cc in same) ])

-- what lies within two types lies within the elements of their sets
pub within_sets : (a b ty : Ty) → LiesWithin (IsEither a b) ty → LiesWithin (IsElementOf (IsEither (set_of a) (set_of b))) ty
within_sets a b ty =
    LiesWithin-more (IsEither a b) (IsElementOf (IsEither (set_of a) (set_of b))) ty
    (λ of either. elim either [ inl e ↦ inl (λ i. set_of (e i)) | inr e ↦ inr (λ i. set_of (e i)) ])

-- the attributes with another type at a name
abbrev pub replaced : Text → Ty → Fields → Fields
replaced name ty end = end
replaced name ty (field other required of rest) = field other required (if bytes_eq name other then ty else of) (replaced name ty rest)

-- the names stay
pub replaced_names : (name : Text) (ty : Ty) (fields : Fields) → field_names (replaced name ty fields) ≡ field_names fields
replaced_names name ty end = refl
replaced_names name ty (field other required of rest) = λ i. other ∷ replaced_names name ty rest i

-- what the first attribute becomes
replaced_first : (b : Bool) (name other n : Text) (flag r : Bool) (ty of t : Ty) (rest : Fields)
    → (b ≡ true → name ≡ other) → other ≡ n → flag ≡ r → (if b then ty else of) ≡ t
    → ((name ≡ n) × (ty ≡ t) × ((own : Ty) × HasField (field other flag of rest) n r own)) ⊎ HasField (field other flag of rest) n r t
replaced_first true name other n flag r ty of t rest equal same alike e = inl (equal refl ∙ same, e, (of, inl (same, alike, refl)))
replaced_first false name other n flag r ty of t rest equal same alike e = inr (inl (same, alike, e))

-- each attribute is the new one, in the place of one of that name, or an old one
pub replaced_has : (name : Text) (ty : Ty) (fields : Fields) (n : Text) (r : Bool) (t : Ty) → HasField (replaced name ty fields) n r t
    → ((name ≡ n) × (ty ≡ t) × ((own : Ty) × HasField fields n r own)) ⊎ HasField fields n r t
replaced_has name ty end n r t has = absurd has
replaced_has name ty (field other flag of rest) n r t (inl same) =
    replaced_first (bytes_eq name other) name other n flag r ty of t rest (bytes_eq-Decides name other).0 same.0 same.1 same.2
replaced_has name ty (field other flag of rest) n r t (inr there) =
    elim (replaced_has name ty rest n r t there) [ inl new ↦ inl (new.0, new.1, (new.2.0, inr new.2.1)) | inr old ↦ inr (inr old) ]

-- the new type stands in the place of an old one of that name
pub has_replaced : (name : Text) (ty : Ty) (fields : Fields) (r : Bool) (own : Ty) → HasField fields name r own
    → HasField (replaced name ty fields) name r ty
has_replaced name ty end r own has = absurd has
has_replaced name ty (field other flag of rest) r own (inl same) =
    inl (same.0, same.1, chosen_first (bytes_eq name other) ty of ((bytes_eq-Decides name other).1 (sym same.0)))
has_replaced name ty (field other flag of rest) r own (inr there) = inr (has_replaced name ty rest r own there)

-- a record stays above another as a type at a name becomes another above the other's
replaced_above : (fa fj : Fields) (name : Text) (ra : Bool) (a ty : Ty) → IsSortedByName fa → HasField fa name ra a
    → Below Strict a ty → FieldsBelow Strict fa fj → FieldsBelow Strict fa (replaced name ty fj)
replaced_above fa fj name ra a ty sorted_by_name has below h =
    FieldsBelow-from Strict fa (replaced name ty fj) (λ n r t there. elim (replaced_has name ty fj n r t there) [
      | inl new ↦
          let own = HasBelow-of Strict fa fj n r new.2.0 h new.2.1 in
          let same : own.1 ≡ a = (HasField-once fa n own.0 ra own.1 a sorted_by_name own.2 (rw new.0 at has)).1 in
          (own.0, own.1, own.2, own.3, rw same (rw new.1 at below))
      | inr old ↦ HasBelow-of Strict fa fj n r t h old
    ])

-- the type at a name of a least own bound of two records is the least own bound of the types there,
-- in strict mode
pub least_at_name : (fa fb fj : Fields) (ta tb tj : OpenTag) (name : Text) (ra rb rj : Bool) (a b join : Ty)
    → IsSortedByName fa → IsSortedByName fb → IsSortedByName fj → HasField fa name ra a → HasField fb name rb b → HasField fj name rj join
    → IsLeastOwnBound Strict (record_of fa ta) (record_of fb tb) (record_of fj tj) → IsLeastOwnBound Strict a b join
least_at_name fa fb fj ta tb tj name ra rb rj a b join first second third has also there least =
    let lower = HasBelow-of Strict fa fj name rj join least.0.0.0.2 there in
    let other = HasBelow-of Strict fb fj name rj join least.0.0.1.0.2 there in
    let same : lower.1 ≡ a = (HasField-once fa name lower.0 ra lower.1 a first lower.2 has).1 in
    let alike : other.1 ≡ b = (HasField-once fb name other.0 rb other.1 b second other.2 also).1 in (
      (
        (rw same at lower.4, (rw alike at other.4, tt)),
        within_both fa fb ta tb name ra rb a b join first second has also
            (FieldsLieWithin-of (IsEither (record_of fa ta) (record_of fb tb)) fj name rj join least.0.1 there),
      ),
      λ bound own. below bound own,
    )
  where
    names_same : (bound : Ty) → Included (field_names fa) (field_names (replaced name bound fj))
    names_same bound = rw (replaced_names name bound fj) least.0.0.0.1

    other_names_same : (bound : Ty) → Included (field_names fb) (field_names (replaced name bound fj))
    other_names_same bound = rw (replaced_names name bound fj) least.0.0.1.0.1

    own_bound : (bound : Ty) → IsOwnBound Strict a b bound → IsOwnBound Strict (record_of fa ta) (record_of fb tb)
        (record_of (replaced name bound fj) tj)
    own_bound bound own = (
      (
        (least.0.0.0.0, names_same bound, replaced_above fa fj name ra a bound first has own.0.0 least.0.0.0.2),
        ((least.0.0.1.0.0, other_names_same bound, replaced_above fb fj name rb b bound second also own.0.1.0 least.0.0.1.0.2), tt),
      ),
      FieldsLieWithin-from (IsEither (record_of fa ta) (record_of fb tb)) (replaced name bound fj)
          (λ n r t placed. elim (replaced_has name bound fj n r t placed) [
            | inl new ↦ rw new.0 at (within_named fa fb ta tb name ra rb a b t has also (rw new.1 at own.1))
            | inr old ↦ FieldsLieWithin-of (IsEither (record_of fa ta) (record_of fb tb)) fj n r t least.0.1 old
          ]),
    )

    below : (bound : Ty) → IsOwnBound Strict a b bound → Below Strict join bound
    below bound own =
        let above = least.1 (record_of (replaced name bound fj) tj) (own_bound bound own) in
        let placed = HasBelow-of Strict fj (replaced name bound fj) name rj bound above.2 (has_replaced name bound fj rj join there) in
        rw (HasField-once fj name placed.0 rj placed.1 join third placed.2 there).1 at placed.4
