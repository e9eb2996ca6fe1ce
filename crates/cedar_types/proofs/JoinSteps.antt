-- Steps of the walks that join two records.
use Rattle.std.proofs.Common.{◌↔◌, ◌≡◌, ◌⊎◌, ◌&&◌, ◌++◌, ℕ, Bool, refl, List, [], ◌∷◌, length, get_or, ap, sym, subst, ◌∙◌, inl, inr, string_bytes, arith, Contains, map, Err, Option, Some, None, true, false, cond, IfSome}
use Rattle.std.proofs.lemmas.List.{append-nil, length-map}
use Rattle.std.specs.Bool.{Decides}
use Rattle.std.specs.List.{AllByRecursion}
use Rattle.std.specs.List.Sorted.{IsStrictlySortedBy}
use Rattle.std.specs.Option.{option_map}
use Rattle.std.specs.declared.alloc.Global.{Global}
use Rattle.std.specs.declared.string.String.{String}
use Rattle.cedar_ast.proofs.Texts.{text_cmp-total, text_cmp-Equal}
use Rattle.cedar_name_map.proofs.RisingLemmas.{Ahead, AllBelow, Included-back, Included-length, Ahead-first, Ahead-next, Ahead-sought, missed}
use Rattle.cedar_name_map.proofs.SearchLemmas.{text_of, value_at-place}
use Rattle.cedar_type_rules.proofs.AgreeLaws.{HasField-once}
use Rattle.cedar_type_rules.proofs.Decisions.{all_among}
use Rattle.cedar_type_rules.proofs.RecordAnswers.{PermissiveJoin, NothingDropped, no_permissive, drop_one, keep_one, permissive_names, permissive_second, permissive_closed, permissive_open}
use Rattle.cedar_type_rules.proofs.StrictRecordAnswers.{StrictJoin, no_strict, keep_strict, help_refuses, strict_least, same_names}
use Rattle.cedar_type_rules.proofs.SubtypeLaws.{HasField-name, HasField-named}
use Rattle.cedar_type_rules.proofs.SubtypeLemmas.{HasField-found}
use Rattle.cedar_type_rules.specs.declared.join_error.JoinError.TheVariants as error
use Rattle.cedar_type_rules.specs.declared.join_error.LubHelp.TheVariants as help
use Rattle.cedar_types.proofs.EqualityLaws.{attribute_of-parts}
use Rattle.cedar_types.proofs.FieldLemmas.{field_at-pairs, length-fields}
use Rattle.cedar_types.proofs.SubtypeSteps.{Sought, IsAt}
use Rattle.cedar_types.specs.Words.{AreSortedByName, AttributeType, Attributes, ClosedAttributes, Fields, HasField, HaveOwnBound, Included, IsAnswerOrMemory, IsFlagHelp, IsHelp, IsHelpAtName, IsJoinAnswer, IsLeastOwnBound, IsPermissiveAttribute, IsSortedByName, IsSortedByName-fields, IsStrictAttribute, IsWellFormed, IsWellFormed-type, JoinError, LubHelp, OpenAttributes, OpenTag, Permissive, Strict, Text, Ty, attribute_loc, attribute_of, attribute_ty, either_open, field, field_names, field_names-entries, field_names-pairs, fields_from, fields_of, fields_of-pairs, located, out-AttributeType, out-Attributes, pairs_of, plain_attributes, record_of, text_cmp, ty_of, value_at}

-- pairs of a name and an attribute
abbrev pub Pairs : Type 0
Pairs = List (String Global × AttributeType)

-- the attributes that some pairs stand for
abbrev pub fields_at : Pairs → Fields
fields_at pairs = fields_from (plain_attributes pairs)

-- the type of an attribute is well formed
attribute_formed : (attribute : AttributeType) → IsWellFormed (attribute_ty attribute)
attribute_formed attribute =
    subst (λ (it : Bool × Ty). IsWellFormed it.1) (sym (attribute_of-parts attribute))
    (IsWellFormed-type (out-AttributeType attribute).attr_type.value)

-- none of the attributes has a location
abbrev pub AreUnplaced : Pairs → Type 0
AreUnplaced pairs = AllByRecursion (λ one. attribute_loc one.1 ≡ None) pairs

-- one more without a location
unplaced-push : (joined : Pairs) (one : String Global × AttributeType) → AreUnplaced joined → attribute_loc one.1 ≡ None
    → AreUnplaced (joined ++ one ∷ [])
unplaced-push [] one all none = (none, tt)
unplaced-push (first ∷ rest) one all none = (all.0, unplaced-push rest one all.1 none)

-- one of two without a location has none
unplaced-chosen : (b : Bool) (x : AttributeType) (found : Option AttributeType) → attribute_loc x ≡ None
    → IfSome (option_map located found) (λ it. it.loc ≡ None) → IfSome (option_map located (cond b (Some x) found)) (λ it. it.loc ≡ None)
unplaced-chosen true x found none rest = none
unplaced-chosen false x found none rest = rest

-- so the one of a name has none
pub unplaced-at : (joined : Pairs) (name : Text) → AreUnplaced joined
    → IfSome (option_map located (value_at name joined)) (λ it. it.loc ≡ None)
unplaced-at [] name all = tt
unplaced-at (first ∷ rest) name all = unplaced-chosen _ first.1 (value_at name rest) all.0 (unplaced-at rest name all.1)

-- one more pair behind others is the first of what follows them
plain-push : (joined : Pairs) (one : String Global × AttributeType) (tail : List (Text × (Bool × Ty)))
    → plain_attributes joined ++ ((string_bytes one.0, attribute_of one.1) ∷ tail) ≡ plain_attributes (joined ++ one ∷ []) ++ tail
plain-push [] one tail = refl
plain-push (first ∷ rest) one tail = ap (λ more. (string_bytes first.0, attribute_of first.1) ∷ more) (plain-push rest one tail)

-- pairs whose names are sorted without duplicates are attributes that do
ascending_at : (pairs : Pairs) → IsStrictlySortedBy text_cmp (map text_of pairs) → IsSortedByName (fields_at pairs)
ascending_at pairs up = rw (field_names-entries pairs) up

-- and the names of such attributes are sorted
pub names_sorted : (pairs : Pairs) (fields : Fields) → fields ≡ fields_at pairs → IsSortedByName fields → AreSortedByName pairs
names_sorted pairs fields is sorted_by_name = rw (ap field_names is ∙ field_names-entries pairs) at sorted_by_name

-- there are as many names as pairs
names_count : (pairs : Pairs) (fields : Fields) → fields ≡ fields_at pairs → length (field_names fields) ≡ length pairs
names_count pairs fields is =
    ap (λ each. length (field_names each)) is ∙ (ap length (field_names-entries pairs) ∙ length-map pairs text_of)

module _ (b : Attributes) (at place : ℕ) (item : String Global × AttributeType) (rest : Pairs)
    (ahead : Ahead text_of text_of text_cmp (pairs_of b) at (item ∷ rest)) (sought : Sought b at place (string_bytes item.0)) where
  -- the names before the place are below
  all_below : AllBelow text_of text_cmp (pairs_of b) place (string_bytes item.0)
  all_below = Ahead-sought text_of text_of text_cmp text_cmp-total (pairs_of b) at place item rest ahead sought.passed

  -- the walk goes on from the place
  ahead_next : Ahead text_of text_of text_cmp (pairs_of b) place rest
  ahead_next = Ahead-next text_of text_of text_cmp text_cmp-total (pairs_of b) at place item rest ahead all_below

  -- where the name isn't at the place, the record hasn't the name
  lacks_name : ¬ IsAt (pairs_of b) place (string_bytes item.0) → ¬ Contains (field_names (fields_of b)) (string_bytes item.0)
  lacks_name wrong among =
      missed text_of text_cmp text_cmp-total (pairs_of b) (out-Attributes b).attrs.value.sorted_by_name (string_bytes item.0)
      place all_below sought.stays wrong (rw (field_names-pairs b) at among)

  -- where it is, the record has the attribute there
  has_there : (d : String Global × AttributeType) → IsAt (pairs_of b) place (string_bytes item.0)
      → HasField (fields_of b) (string_bytes item.0) (attribute_of (get_or (pairs_of b) place d).1).0
      (attribute_of (get_or (pairs_of b) place d).1).1
  has_there d here =
      HasField-found (string_bytes item.0) (fields_of b) (attribute_of (get_or (pairs_of b) place d).1)
      (field_at-pairs (string_bytes item.0) b ∙ ap (option_map attribute_of)
      (value_at-place (pairs_of b) (out-Attributes b).attrs.value.sorted_by_name (string_bytes item.0) place d here.0 (here.1 d)))

-- a walk that goes on to a place for the next attribute of the one record, and tells whether its
-- name is there in the other
pub record JoinStep (SoFar : Attributes → Attributes → ℕ → Pairs → Pairs → Type 0) (a b : Attributes) (at place : ℕ)
    (item : String Global × AttributeType) (rest joined : Pairs) (found : Bool) : Type 0 where
  pub so_far : SoFar a b at (item ∷ rest) joined
  pub sought : Sought b at place (string_bytes item.0)
  pub here : Decides found (IsAt (pairs_of b) place (string_bytes item.0))

-- a walk of a permissive join: with the join of what is left behind them, the pairs so far are the
-- join of the whole
pub record PermissiveSoFar (a b : Attributes) (at : ℕ) (rest joined : Pairs) : Type 0 where
  pub unplaced : AreUnplaced joined
  pub ahead : Ahead text_of text_of text_cmp (pairs_of b) at rest
  pub whole : (tail : List (Text × (Bool × Ty))) (it : PermissiveJoin (fields_at rest) (fields_of b)) → it.fields ≡ fields_from tail
      → (all : PermissiveJoin (fields_of a) (fields_of b)) × (all.fields ≡ fields_from (plain_attributes joined ++ tail))

-- at first all is left
pub permissive-first : (a b : Attributes) → PermissiveSoFar a b 0 (pairs_of a) []
permissive-first a b = record {
  unplaced = tt;
  ahead = Ahead-first text_of text_of text_cmp text_cmp-total (pairs_of b) (pairs_of a) (out-Attributes a).attrs.value.sorted_by_name;
  whole = λ tail. rw (← (fields_of-pairs a)) (λ it is. (it, is));
}

-- at last the pairs are the join
pub permissive-last : (a b : Attributes) (at : ℕ) (joined : Pairs) → PermissiveSoFar a b at [] joined
    → (all : PermissiveJoin (fields_of a) (fields_of b)) × (all.fields ≡ fields_at joined)
unfolding no_permissive
permissive-last a b at joined so_far =
    let all = so_far.whole [] (no_permissive (fields_of b)) refl in
    (all.0, all.1 ∙ ap fields_from (append-nil (plain_attributes joined)))

module _ {a b : Attributes} {at place : ℕ} {item : String Global × AttributeType} {rest joined : Pairs} {found : Bool}
    (step : JoinStep PermissiveSoFar a b at place item rest joined found) where
  -- a name whose types have no own bound is dropped
  permissive-drop : ((rb : Bool) (of : Ty) → HasField (fields_of b) (string_bytes item.0) rb of → ¬ HaveOwnBound Permissive (attribute_ty item.1) of)
      → PermissiveSoFar a b place rest joined
  unfolding drop_one
  permissive-drop none = record {
    unplaced = step.so_far.unplaced;
    ahead = ahead_next b at place item rest step.so_far.ahead step.sought;
    whole = λ tail it is.
        step.so_far.whole tail (drop_one (string_bytes item.0) (attribute_of item.1).0 (attribute_ty item.1) (fields_at rest)
        (fields_of b) it none) is;
  }

  -- a name that the other record hasn't is dropped
  pub permissive-missed : found ≡ false → PermissiveSoFar a b place rest joined
  permissive-missed apart =
      permissive-drop (λ rb of has own. lacks_name b at place item rest step.so_far.ahead step.sought
      (λ wrong. absurd (let there = step.here.1 wrong in cc)) (HasField-name (fields_of b) (string_bytes item.0) rb of has))

  -- a name whose types don't join is dropped
  pub permissive-refused : (d : String Global × AttributeType) → found ≡ true
      → ¬ HaveOwnBound Permissive (attribute_ty item.1) (attribute_ty (get_or (pairs_of b) place d).1) → PermissiveSoFar a b place rest joined
  permissive-refused d met none =
      permissive-drop (λ rb of has own.
      none (rw (HasField-once (fields_of b) (string_bytes item.0) rb _ of _ (IsSortedByName-fields b) has
      (has_there b at place item rest step.so_far.ahead step.sought d (step.here.0 met))).1 at own))

  -- a name whose types join is kept
  pub permissive-kept : (d one : String Global × AttributeType) → found ≡ true → string_bytes one.0 ≡ string_bytes item.0
      → IsLeastOwnBound Permissive (attribute_ty item.1) (attribute_ty (get_or (pairs_of b) place d).1) (attribute_ty one.1)
      → (attribute_of one.1).0 ≡ ((attribute_of item.1).0 && (attribute_of (get_or (pairs_of b) place d).1).0)
      → attribute_loc one.1 ≡ None → PermissiveSoFar a b place rest (joined ++ one ∷ [])
  unfolding keep_one
  permissive-kept d one met named least flag none = record {
    unplaced = unplaced-push joined one step.so_far.unplaced none;
    ahead = ahead_next b at place item rest step.so_far.ahead step.sought;
    whole = λ tail it is.
        let other = attribute_of (get_or (pairs_of b) place d).1 in
        let all = step.so_far.whole ((string_bytes one.0, attribute_of one.1) ∷ tail)
        (keep_one (string_bytes item.0) (attribute_of item.1).0 other.0 (attribute_ty item.1) other.1 (attribute_ty one.1)
        (fields_at rest) (fields_of b) (ascending_at (item ∷ rest) step.so_far.ahead.up) it
        (has_there b at place item rest step.so_far.ahead step.sought d (step.here.0 met)) least (attribute_formed one.1))
        (λ i. field (sym named i) (sym flag i) (attribute_ty one.1) (is i)) in
        (all.0, all.1 ∙ ap fields_from (plain-push joined one tail));
  }

-- the names of a record that a permissive join has as many of are all in it
kept_all : (names others : List Text) → IsStrictlySortedBy text_cmp names → IsStrictlySortedBy text_cmp others → Included names others
    → length names ≡ length others → Included others names
kept_all names others first second within same = Included-back text_cmp text_cmp-total names others first second within (omega (arith, same))

-- and where all are in it, it has as many
counted_all : (names others : List Text) → IsStrictlySortedBy text_cmp names → IsStrictlySortedBy text_cmp others → Included names others
    → Included others names → length names ≡ length others
counted_all names others first second within back =
    let up = Included-length text_cmp text_cmp-total names others first second within in
    let down = Included-length text_cmp text_cmp-total others names second first back in
    omega (arith, up, down)

module _ (a b : Attributes) (ta tb : OpenTag) (joined : Pairs) (all : PermissiveJoin (fields_of a) (fields_of b))
    (is : all.fields ≡ fields_at joined) where
  -- both records are closed, and the join has as many names as each
  abbrev IsWhole : Type 0
  IsWhole =
      ((ta ≡ ClosedAttributes) × (tb ≡ ClosedAttributes))
      × ((length joined ≡ length (pairs_of a)) × (length joined ≡ length (pairs_of b)))

  -- then nothing is dropped
  nothing_dropped : IsWhole → NothingDropped (fields_of a) (fields_of b) all.fields ta tb
  nothing_dropped whole = (
    whole.0,
    (
      kept_all (field_names all.fields) (field_names (fields_of a)) all.sorted_by_name (IsSortedByName-fields a)
          (permissive_names (fields_of a) (fields_of b) all)
          (names_count joined all.fields is ∙ (whole.1.0 ∙ length-fields a (out-Attributes a).attrs.value refl)),
      kept_all (field_names all.fields) (field_names (fields_of b)) all.sorted_by_name (IsSortedByName-fields b)
          (permissive_second (fields_of a) (fields_of b) all)
          (names_count joined all.fields is ∙ (whole.1.1 ∙ length-fields b (out-Attributes b).attrs.value refl)),
    ),
  )

  -- and only then
  all_counted : NothingDropped (fields_of a) (fields_of b) all.fields ta tb → IsWhole
  all_counted none = (
    none.0,
    (
      sym (names_count joined all.fields is)
          ∙ (counted_all (field_names all.fields) (field_names (fields_of a)) all.sorted_by_name (IsSortedByName-fields a)
          (permissive_names (fields_of a) (fields_of b) all) none.1.0
          ∙ sym (length-fields a (out-Attributes a).attrs.value refl)),
      sym (names_count joined all.fields is)
          ∙ (counted_all (field_names all.fields) (field_names (fields_of b)) all.sorted_by_name (IsSortedByName-fields b)
          (permissive_second (fields_of a) (fields_of b) all) none.1.1
          ∙ sym (length-fields b (out-Attributes b).attrs.value refl)),
    ),
  )

  -- a record with the attributes of a permissive join that is closed exactly then is the least own
  -- bound
  pub permissive-least : (openness : OpenTag) → (openness ≡ ClosedAttributes) ↔ IsWhole
      → IsLeastOwnBound Permissive (record_of (fields_of a) ta) (record_of (fields_of b) tb) (record_of (fields_at joined) openness)
  permissive-least OpenAttributes closed =
      rw is at (permissive_open (fields_of a) (fields_of b) ta tb all (IsSortedByName-fields a) (IsSortedByName-fields b)
      (λ none. let wrong : OpenAttributes ≡ ClosedAttributes = closed.1 (all_counted none) in absurd cc))
  permissive-least ClosedAttributes closed =
      rw is at (permissive_closed (fields_of a) (fields_of b) ta tb all (IsSortedByName-fields a) (IsSortedByName-fields b)
      (nothing_dropped (closed.0 refl)))

-- a walk of a strict join: with the join of what is left behind them, the pairs so far are the join
-- of the whole, and a help that is found in what is left is one of the whole
pub record StrictSoFar (a b : Attributes) (at : ℕ) (rest joined : Pairs) : Type 0 where
  pub unplaced : AreUnplaced joined
  pub ahead : Ahead text_of text_of text_cmp (pairs_of b) at rest
  pub whole : (tail : List (Text × (Bool × Ty))) (it : StrictJoin (fields_at rest) (fields_of b)) → it.fields ≡ fields_from tail
      → (all : StrictJoin (fields_of a) (fields_of b)) × (all.fields ≡ fields_from (plain_attributes joined ++ tail))
  pub helped : (given : LubHelp) → IsHelpAtName (fields_at rest) (fields_of b) given → IsHelpAtName (fields_of a) (fields_of b) given

-- at first all is left
pub strict-first : (a b : Attributes) → StrictSoFar a b 0 (pairs_of a) []
strict-first a b = record {
  unplaced = tt;
  ahead = Ahead-first text_of text_of text_cmp text_cmp-total (pairs_of b) (pairs_of a) (out-Attributes a).attrs.value.sorted_by_name;
  whole = λ tail. rw (← (fields_of-pairs a)) (λ it is. (it, is));
  helped = λ given found. rw (fields_of-pairs a) found;
}

-- at last the pairs are the join
pub strict-last : (a b : Attributes) (at : ℕ) (joined : Pairs) → StrictSoFar a b at [] joined
    → (all : StrictJoin (fields_of a) (fields_of b)) × (all.fields ≡ fields_at joined)
unfolding no_strict
strict-last a b at joined so_far =
    let all = so_far.whole [] (no_strict (fields_of b)) refl in
    (all.0, all.1 ∙ ap fields_from (append-nil (plain_attributes joined)))

module _ {a b : Attributes} {at place : ℕ} {item : String Global × AttributeType} {rest joined : Pairs} {found : Bool}
    (step : JoinStep StrictSoFar a b at place item rest joined found) where
  -- where the other record hasn't the name, there is the help for that
  pub strict-missed : found ≡ false → IsHelpAtName (fields_of a) (fields_of b) help.RecordWidth
  strict-missed apart =
      step.so_far.helped help.RecordWidth (inl (
        lacks_name b at place item rest step.so_far.ahead step.sought
            (λ wrong. absurd (let there = step.here.1 wrong in cc)),
        refl,
      ))

  -- where the attributes have no join, there is the help for them
  pub strict-refused : (d : String Global × AttributeType) (given : LubHelp) → found ≡ true
      → (IsFlagHelp (attribute_of item.1) (attribute_of (get_or (pairs_of b) place d).1) given
      ⊎ (¬ HaveOwnBound Strict (attribute_ty item.1) (attribute_ty (get_or (pairs_of b) place d).1)
      × IsHelp Strict (attribute_ty item.1) (attribute_ty (get_or (pairs_of b) place d).1) given))
      → IsHelpAtName (fields_of a) (fields_of b) given
  strict-refused d given met right =
      let other = attribute_of (get_or (pairs_of b) place d).1 in
      step.so_far.helped given (inr (inl (other.0, other.1, has_there b at place item rest step.so_far.ahead step.sought d (step.here.0 met), right)))

  -- a name whose types join and whose flags are the same is kept
  pub strict-kept : (d one : String Global × AttributeType) → found ≡ true → string_bytes one.0 ≡ string_bytes item.0
      → IsLeastOwnBound Strict (attribute_ty item.1) (attribute_ty (get_or (pairs_of b) place d).1) (attribute_ty one.1)
      → (attribute_of item.1).0 ≡ (attribute_of one.1).0 → (attribute_of (get_or (pairs_of b) place d).1).0 ≡ (attribute_of one.1).0
      → attribute_loc one.1 ≡ None → StrictSoFar a b place rest (joined ++ one ∷ [])
  unfolding keep_strict
  strict-kept d one met named least own_flag other_flag none = record {
    unplaced = unplaced-push joined one step.so_far.unplaced none;
    ahead = ahead_next b at place item rest step.so_far.ahead step.sought;
    whole = λ tail it is.
        let other = attribute_of (get_or (pairs_of b) place d).1 in
        let has = rw (other_flag ∙ sym own_flag) at (has_there b at place item rest step.so_far.ahead step.sought d (step.here.0 met)) in
        let all = step.so_far.whole ((string_bytes one.0, attribute_of one.1) ∷ tail)
        (keep_strict (string_bytes item.0) (attribute_of item.1).0 (attribute_ty item.1) other.1 (attribute_ty one.1)
        (fields_at rest) (fields_of b) (ascending_at (item ∷ rest) step.so_far.ahead.up) it has least (attribute_formed one.1))
        (λ i. field (sym named i) (own_flag i) (attribute_ty one.1) (is i)) in
        (all.0, all.1 ∙ ap fields_from (plain-push joined one tail));
    helped = λ given found. step.so_far.helped given (inr (inr found));
  }

module _ (a b : Attributes) (ta tb : OpenTag) (same : length (pairs_of a) ≡ length (pairs_of b)) where
  -- the records have as many names
  same_counts : length (field_names (fields_of a)) ≡ length (field_names (fields_of b))
  same_counts =
      sym (length-fields a (out-Attributes a).attrs.value refl)
      ∙ (same ∙ length-fields b (out-Attributes b).attrs.value refl)

  -- a record with the attributes of a strict join, which is open if either is, is the least own
  -- bound
  pub strict-least : (joined : Pairs) (all : StrictJoin (fields_of a) (fields_of b)) → all.fields ≡ fields_at joined
      → IsLeastOwnBound Strict (record_of (fields_of a) ta) (record_of (fields_of b) tb) (record_of (fields_at joined) (either_open ta tb))
  strict-least joined all is =
      rw is at (strict_least (fields_of a) (fields_of b) ta tb all (IsSortedByName-fields a) (IsSortedByName-fields b)
      ((all_among text_cmp text_cmp-total text_cmp-Equal (field_names (fields_of a)) (field_names (fields_of b))
      (IsSortedByName-fields a) (IsSortedByName-fields b) (λ n among. (let found = HasField-named (fields_of a) n among in
      let kept = HasField-named all.fields n (all.complete n found.0 found.1 found.2) in
      let part = all.sound n kept.0 kept.1 kept.2 in
      HasField-name (fields_of b) n part.second_flag part.second part.in_second))).1 same_counts))

  -- a help at a name is a right answer
  pub strict-refusal : (given : LubHelp) → IsHelpAtName (fields_of a) (fields_of b) given
      → ¬ HaveOwnBound Strict (record_of (fields_of a) ta) (record_of (fields_of b) tb)
      × IsHelp Strict (record_of (fields_of a) ta) (record_of (fields_of b) tb) given
  strict-refusal given found = (
    help_refuses (fields_of a) (fields_of a) (fields_of b) ta tb given (IsSortedByName-fields a) (IsSortedByName-fields b)
        (λ n r t has. has) found,
    inr (same_counts, found),
  )

-- what refuses two attributes refuses the records
pub strict-errs : {a b : Attributes} {at place : ℕ} {item : String Global × AttributeType} {rest joined : Pairs} {found : Bool}
    → (ta tb : OpenTag) → length (pairs_of a) ≡ length (pairs_of b) → JoinStep StrictSoFar a b at place item rest joined found
    → (d : String Global × AttributeType) (refusal : JoinError) → found ≡ true
    → IsStrictAttribute (attribute_of item.1) (attribute_of (get_or (pairs_of b) place d).1) (Err refusal)
    → IsAnswerOrMemory ty_of (IsJoinAnswer Strict (record_of (fields_of a) ta) (record_of (fields_of b) tb)) (Err refusal)
strict-errs {a = a} {b = b} ta tb same step d (error.Help given) met right =
    strict-refusal a b ta tb same given (strict-refused step d given met right)
strict-errs ta tb same step d error.Memory met right = tt

-- where two attributes are dropped, their types have no own bound
pub dropped_have_none : (a b : Bool × Ty) (found : Option AttributeType) → IsPermissiveAttribute a b found
    → ((join : AttributeType) → ¬ (found ≡ Some join)) → ¬ HaveOwnBound Permissive a.1 b.1
dropped_have_none a b (Some join) right other = absurd (other join refl)
dropped_have_none a b None right other = right

-- records of unlike length have no strict join
pub strict-unlike : (a b : Attributes) (ta tb : OpenTag) → ¬ (length (pairs_of a) ≡ length (pairs_of b))
    → ¬ HaveOwnBound Strict (record_of (fields_of a) ta) (record_of (fields_of b) tb)
    × IsHelp Strict (record_of (fields_of a) ta) (record_of (fields_of b) tb) help.RecordWidth
strict-unlike a b ta tb unlike =
    let first = length-fields a (out-Attributes a).attrs.value refl in
    let second = length-fields b (out-Attributes b).attrs.value refl in
    let differ : ¬ (length (field_names (fields_of a)) ≡ length (field_names (fields_of b))) =
    λ e. unlike (first ∙ (e ∙ sym second)) in (
      (λ own. differ (ap length (same_names (fields_of a) (fields_of b) ta tb (IsSortedByName-fields a) (IsSortedByName-fields b) own))),
      inl (differ, refl),
    )
