-- A strict join is below each own bound in permissive mode.
use Rattle.std.proofs.Common.{◌≡◌, refl, sym, ◌∙◌, inl, inr}
use Rattle.cedar_type_rules.proofs.AgreeLaws.{Below-permissive, AreWellFormed-of, HasField-once}
use Rattle.cedar_type_rules.proofs.JoinLemmas.{upper_is_join}
use Rattle.cedar_type_rules.proofs.SubtypeLaws.{Below-trans, HasBelow-of, HasField-name, HasField-named, FieldsBelow-names}
use Rattle.cedar_type_rules.proofs.WithinLemmas.{least_at_name, within_both, within_elements, within_sets}
use Rattle.cedar_type_rules.specs.Words.{Below, ClosedAttributes, Fields, FieldsBelow, FieldsLieWithin, Included, IsEither, IsLeastOwnBound, IsOwnBound, IsWellFormed, NamesBelow, OpenAttributes, OpenTag, OpennessBelow, Permissive, Strict, Ty, any_entity, any_set, end, extension_of, field, field_names, long, never, record_of, set_of, text, truth, union_of}

-- types that have the same types below in both modes
abbrev IsModeless : Ty → Type 0
IsModeless any_entity = ⊥
IsModeless (union_of names) = ⊥
IsModeless (set_of ty) = ⊥
IsModeless (record_of fields openness) = ⊥
IsModeless _ = Unit {0}

-- what is below one of them permissively is so strictly
modeless_strict : (a bound : Ty) → IsModeless bound → Below Permissive a bound → Below Strict a bound
modeless_strict never bound simple h = tt
modeless_strict (truth a) (truth b) simple h = h
modeless_strict long long simple h = tt
modeless_strict text text simple h = tt
modeless_strict any_set any_set simple h = tt
modeless_strict (set_of a) any_set simple h = tt
modeless_strict (extension_of a) (extension_of b) simple h = h
modeless_strict any_entity any_entity simple h = elim simple [ ]
modeless_strict (union_of a) any_entity simple h = elim simple [ ]
modeless_strict (union_of a) (union_of b) simple h = elim simple [ ]
modeless_strict (set_of a) (set_of b) simple h = elim simple [ ]
modeless_strict (record_of a openness) (record_of b other) simple h = elim simple [ ]
modeless_strict a b simple h = elim h [ ]

-- a strict join is below such a bound
modeless_below : (bound a b join : Ty) → IsModeless bound → IsLeastOwnBound Strict a b join
    → IsOwnBound Permissive a b bound → Below Permissive join bound
modeless_below bound a b join simple least own =
    Below-permissive join bound
    (least.1 bound ((modeless_strict a bound simple own.0.0, (modeless_strict b bound simple own.0.1.0, tt)), own.1))

-- the join of `Never` and a type is below what the type is below
never_first : (b join bound : Ty) → IsLeastOwnBound Strict never b join → Below Permissive b bound → Below Permissive join bound
never_first b join bound least h =
    Below-trans Permissive join b bound (Below-permissive join b (least.1 b (upper_is_join Strict never b tt).0.0)) h

-- the join of a type and `Never` is below what the type is below
never_second : (a join bound : Ty) → IsLeastOwnBound Strict a never join → Below Permissive a bound → Below Permissive join bound
never_second a join bound least h =
    Below-trans Permissive join a bound (Below-permissive join a (least.1 a (upper_is_join Strict never a tt).1.0)) h

-- what is strictly above any entity is below it
above_any : (join : Ty) → Below Strict any_entity join → Below Permissive join any_entity
above_any any_entity h = tt
above_any join h = elim h [ ]

-- what is strictly above a union is below any entity
above_union : (names : _) (join : Ty) → Below Strict (union_of names) join → Below Permissive join any_entity
above_union names (union_of others) h = tt
above_union names join h = elim h [ ]

-- what is strictly above a union is below what the union is below
above_same : (names others : _) (join : Ty) → Below Strict (union_of names) join → Included names others
    → Below Permissive join (union_of others)
above_same names others (union_of same) h k = rw h at k
above_same names others join h k = elim h [ ]

-- a strict join is below any entity where both types are
entity_below : (a b join : Ty) → IsLeastOwnBound Strict a b join → Below Permissive a any_entity
    → Below Permissive b any_entity → Below Permissive join any_entity
entity_below never b join least h k = never_first b join any_entity least k
entity_below any_entity b join least h k = above_any join least.0.0.0
entity_below (union_of names) b join least h k = above_union names join least.0.0.0
entity_below a b join least h k = elim h [ ]

-- a strict join is below a union where both types are
union_below : (names : _) (a b join : Ty) → IsLeastOwnBound Strict a b join → Below Permissive a (union_of names)
    → Below Permissive b (union_of names) → Below Permissive join (union_of names)
union_below names never b join least h k = never_first b join (union_of names) least k
union_below names (union_of own) b join least h k = above_same own names join least.0.0.0 h
union_below names a b join least h k = elim h [ ]

-- the element type of a least own bound of two sets is the least own bound of their element types
least_element : (a b join : Ty) → IsLeastOwnBound Strict (set_of a) (set_of b) (set_of join) → IsLeastOwnBound Strict a b join
least_element a b join least = (
  ((least.0.0.0, (least.0.0.1.0, tt)), within_elements a b join least.0.1),
  λ bound own. least.1 (set_of bound) ((own.0.0, (own.0.1.0, tt)), within_sets a b bound own.1),
)

-- a openness is below another if it is below the closed one where the other is closed
pub tag_below : (openness upper : OpenTag) → (upper ≡ ClosedAttributes → OpennessBelow openness ClosedAttributes)
    → OpennessBelow openness upper
tag_below OpenAttributes OpenAttributes closed = tt
tag_below ClosedAttributes OpenAttributes closed = tt
tag_below openness ClosedAttributes closed = closed refl

-- a join is closed where both records are below a closed one
tags_below : (fa fb fj : Fields) (ta tb tj upper : OpenTag) → IsLeastOwnBound Strict (record_of fa ta) (record_of fb tb)
    (record_of fj tj) → OpennessBelow ta upper → OpennessBelow tb upper → OpennessBelow tj upper
tags_below fa fb fj ta tb tj upper least h k =
    tag_below tj upper (λ e. (least.1 (record_of fj ClosedAttributes) (
      (
        (rw e at h, least.0.0.0.1, least.0.0.0.2),
        ((rw e at k, least.0.0.1.0.1, least.0.0.1.0.2), tt),
      ),
      least.0.1,
    )).0)

-- the names of a record with fewer fit where those of the record do
pub names_below : (upper : OpenTag) (fj fa fc : Fields) → Included (field_names fj) (field_names fa)
    → NamesBelow Permissive upper fa fc → NamesBelow Permissive upper fj fc
names_below OpenAttributes fj fa fc within h = tt
names_below ClosedAttributes fj fa fc within h = λ name among. h name (within name among)

mutual
  -- a strict join is below each own bound in permissive mode
  pub strict_below : (bound a b join : Ty) → IsWellFormed a → IsWellFormed b → IsWellFormed join
      → IsLeastOwnBound Strict a b join → IsOwnBound Permissive a b bound → Below Permissive join bound
  strict_below any_entity a b join first second third least own = entity_below a b join least own.0.0 own.0.1.0
  strict_below (union_of names) a b join first second third least own = union_below names a b join least own.0.0 own.0.1.0
  strict_below (set_of c) never b join first second third least own = never_first b join (set_of c) least own.0.1.0
  strict_below (set_of c) (set_of a) never join first second third least own = never_second (set_of a) join (set_of c) least own.0.0
  strict_below (set_of c) (set_of a) (set_of b) any_set first second third least own =
      elim least.0.1 [ inl e ↦ absurd cc | inr e ↦ absurd cc ]
  strict_below (set_of c) (set_of a) (set_of b) (set_of join) first second third least own =
      strict_below c a b join first second third (least_element a b join least)
      ((own.0.0, (own.0.1.0, tt)), within_elements a b c own.1)
  strict_below (set_of c) (set_of a) (set_of b) join first second third least own = elim least.0.0.0 [ ]
  strict_below (set_of c) (set_of a) b join first second third least own = elim own.0.1.0 [ ]
  strict_below (set_of c) a b join first second third least own = elim own.0.0 [ ]
  strict_below (record_of fc tc) never b join first second third least own = never_first b join (record_of fc tc) least own.0.1.0
  strict_below (record_of fc tc) (record_of fa ta) never join first second third least own =
      never_second (record_of fa ta) join (record_of fc tc) least own.0.0
  strict_below (record_of fc tc) (record_of fa ta) (record_of fb tb) (record_of fj tj) first second third least own = (
    tags_below fa fb fj ta tb tj tc least own.0.0.0 own.0.1.0.0,
    names_below tc fj fa fc (FieldsBelow-names Strict fa fj least.0.0.0.2) own.0.0.1,
    strict_fields_below fc fa fb fj ta tb tj first second third least own.0.0.2 own.0.1.0.2 own.1,
  )
  strict_below (record_of fc tc) (record_of fa ta) (record_of fb tb) join first second third least own = elim least.0.0.0 [ ]
  strict_below (record_of fc tc) (record_of fa ta) b join first second third least own = elim own.0.1.0 [ ]
  strict_below (record_of fc tc) a b join first second third least own = elim own.0.0 [ ]
  strict_below never a b join first second third least own = modeless_below never a b join tt least own
  strict_below (truth known) a b join first second third least own = modeless_below (truth known) a b join tt least own
  strict_below long a b join first second third least own = modeless_below long a b join tt least own
  strict_below text a b join first second third least own = modeless_below text a b join tt least own
  strict_below any_set a b join first second third least own = modeless_below any_set a b join tt least own
  strict_below (extension_of name) a b join first second third least own = modeless_below (extension_of name) a b join tt least own

  -- its attributes are below those of each own bound
  strict_fields_below : (fc fa fb fj : Fields) (ta tb tj : OpenTag) → IsWellFormed (record_of fa ta)
      → IsWellFormed (record_of fb tb) → IsWellFormed (record_of fj tj)
      → IsLeastOwnBound Strict (record_of fa ta) (record_of fb tb) (record_of fj tj) → FieldsBelow Permissive fa fc
      → FieldsBelow Permissive fb fc → FieldsLieWithin (IsEither (record_of fa ta) (record_of fb tb)) fc
      → FieldsBelow Permissive fj fc
  strict_fields_below end fa fb fj ta tb tj first second third least h k within = tt
  strict_fields_below (field name required ty rest) fa fb fj ta tb tj first second third least h k within =
      let one = h.0 in
      let other = k.0 in
      let found = HasField-named fj name (least.0.0.0.1 name (HasField-name fa name one.0 one.1 one.2)) in
      let strictly = HasBelow-of Strict fa fj name found.0 found.1 least.0.0.0.2 found.2 in
      let once = HasField-once fa name one.0 strictly.0 one.1 strictly.1 first.0 one.2 strictly.2 in
      let flags : one.0 ≡ found.0 = once.0 ∙ strictly.3 in
      let at_name = least_at_name fa fb fj ta tb tj name one.0 other.0 found.0 one.1 other.1 found.1 first.0 second.0
      third.0 one.2 other.2 found.2 least in
      let own : IsOwnBound Permissive one.1 other.1 ty =
      ((one.4, (other.4, tt)), within_both fa fb ta tb name one.0 other.0 one.1 other.1 ty first.0 second.0 one.2 other.2 within.0) in (
        (
          found.0,
          found.1,
          found.2,
          (λ needed. sym flags ∙ one.3 needed),
          strict_below ty one.1 other.1 found.1 (AreWellFormed-of fa name one.0 one.1 first.1 one.2)
              (AreWellFormed-of fb name other.0 other.1 second.1 other.2)
              (AreWellFormed-of fj name found.0 found.1 third.1 found.2) at_name own,
        ),
        strict_fields_below rest fa fb fj ta tb tj first second third least h.1 k.1 within.1,
      )
