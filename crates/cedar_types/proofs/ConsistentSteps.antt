-- Steps of the walk over two records that tells whether they are consistent.
use Rattle.std.proofs.Common.{◌≡◌, ◌≢◌, ◌⊎◌, ◌↔◌, ◌<◌, ◌≤◌, ◌+◌, ◌-◌, ◌∙◌, ℕ, Bool, true, false, refl, sym, ap, subst, List, [], ◌∷◌, ◌++◌, length, map, Contains, get_or, take, drop, drop-drop, string_bytes, Global, arith}
use Rattle.std.proofs.lemmas.List.{length-drop, map-append, take-append-drop, take_all}
use Rattle.std.proofs.lemmas.Simd.{map-map}
use Rattle.std.specs.Bool.{Decides}
use Rattle.std.specs.List.{AllByRecursion}
use Rattle.std.specs.List.Sorted.{IsStrictlySortedBy}
use Rattle.std.specs.Map.{keys_of}
use Rattle.std.specs.String.{string_cmp}
use Rattle.std.specs.declared.cmp.Ordering.TheVariants.{Less}
use Rattle.std.specs.declared.string.String.{String}
use Rattle.cedar_ast.proofs.Inclusion.{rest_alone, part_fails}
use Rattle.cedar_ast.proofs.Ordered.{IsStrictlySortedBy-map}
use Rattle.cedar_ast.proofs.Texts.{text_cmp-total}
use Rattle.cedar_ast.proofs.TreeLemmas.{core_attribute_of-parts, drop-at}
use Rattle.cedar_name_map.proofs.RisingLemmas.{Ahead, AllBelow, Ahead-first, Ahead-next, Ahead-past, Ahead-sought, missed, below_all, below_each-apart, taken-all, rises-from, seen-from}
use Rattle.cedar_name_map.proofs.SearchLemmas.{text_of, text_at}
use Rattle.cedar_type_rules.proofs.ConsistentWalk.{AreConsistent, consistent-other, consistent-both, consistent-front, consistent-left, MayBeMissing}
use Rattle.cedar_types.proofs.CoredWalk.{core_entry}
use Rattle.cedar_types.proofs.EqualityLaws.{attribute_of-parts}
use Rattle.cedar_types.proofs.SubtypeSteps.{Sought, IsAt}
use Rattle.cedar_types.specs.Words.{AreSortedByName, AttributeType, Attributes, CoreAttributeType, IsConsistent, Text, «Type», attribute_of, core_attribute_of, core_fields_from, core_names, core_ty_of, entry_texts, field_names, field_names-entries, fields_from, fields_of, fields_of-pairs, out-AttributeType, out-Attributes, pairs_of, plain_attributes, plain_entry, text_cmp, ty_of}

-- the name of an attribute of a core record type
abbrev pub core_text : String Global × CoreAttributeType → Text
core_text entry = string_bytes entry.0

-- the names of attributes of a core record type
core_names-entries : (entries : List (String Global × CoreAttributeType))
    → core_names (core_fields_from (map core_entry entries)) ≡ map core_text entries
core_names-entries [] = refl
core_names-entries (entry ∷ rest) = ap (λ names. string_bytes entry.0 ∷ names) (core_names-entries rest)

-- what follows of each of some items holds of each of what is seen
all-seen : {A B : Type 0} (P : A → Type 0) (Q : B → Type 0) (see : A → B) → ((x : A) → P x → Q (see x)) → (xs : List A)
    → AllByRecursion P xs → AllByRecursion Q (map see xs)
all-seen P Q see also [] all = tt
all-seen P Q see also (x ∷ xs) all = (also x all.0, all-seen P Q see also xs all.1)

-- in a sorted list without duplicates the others are above the first
others-above : (first : Text) (others : List Text) → IsStrictlySortedBy text_cmp (first ∷ others)
    → AllByRecursion (λ other. text_cmp first other ≡ Less) others
unfolding IsStrictlySortedBy
others-above first others sorted = sorted.0

-- an attribute of a core record type stands for its flag
flag_of : (other : CoreAttributeType) → (core_attribute_of other).0 ≡ other.required
flag_of other = ap (λ both. both.0) (core_attribute_of-parts other)

-- what is left of two records is consistent
abbrev pub AreLeft : Type 0 → Type 0 → List (String Global × AttributeType) → List (String Global × CoreAttributeType) → Type 0
AreLeft IsOpen IsCoreOpen own others =
    AreConsistent (fields_from (plain_attributes own)) (core_fields_from (map core_entry others)) IsOpen IsCoreOpen

-- a walk that has come to a place: what is left of both tells the whole
pub record ConsistentSoFar (own : List (String Global × AttributeType)) (IsOpen IsCoreOpen Whole : Type 0) (at : ℕ)
    (left : List (String Global × CoreAttributeType)) : Type 0 where
  pub within : at ≤ length own
  pub ahead : Ahead text_of core_text text_cmp own at left
  pub decides : AreLeft IsOpen IsCoreOpen (drop at own) left ↔ Whole

-- at first all is left
pub consistent-first : (attrs : Attributes) (own : List (String Global × AttributeType)) (left : List (String Global × CoreAttributeType))
    (IsOpen IsCoreOpen : Type 0) → own ≡ pairs_of attrs → IsStrictlySortedBy string_cmp (keys_of left)
    → ConsistentSoFar own IsOpen IsCoreOpen (AreConsistent (fields_of attrs) (core_fields_from (map core_entry left)) IsOpen IsCoreOpen) 0 left
consistent-first attrs own left IsOpen IsCoreOpen is sorted =
    let up : IsStrictlySortedBy text_cmp (map core_text left) =
    subst (IsStrictlySortedBy text_cmp) (map-map string_bytes (λ entry. entry.0) left)
    (IsStrictlySortedBy-map string_cmp text_cmp string_bytes (λ a b. refl) (keys_of left) sorted) in
    let W = AreConsistent (fields_of attrs) (core_fields_from (map core_entry left)) IsOpen IsCoreOpen in
    record {
      within = omega arith;
      ahead = Ahead-first text_of core_text text_cmp text_cmp-total own left up;
      decides = subst (λ pairs. AreLeft IsOpen IsCoreOpen pairs left ↔ W) (sym is)
          (subst (λ fields. AreConsistent fields (core_fields_from (map core_entry left)) IsOpen IsCoreOpen ↔ W) (fields_of-pairs attrs)
          ((λ whole. whole), (λ whole. whole)));
    }

-- a walk that goes on to a place for the next attribute of the other record, and tells whether what
-- it passes may be missing
pub record ConsistentStep (own : List (String Global × AttributeType)) (IsOpen IsCoreOpen Whole : Type 0) (at place : ℕ)
    (item : String Global × CoreAttributeType) (rest : List (String Global × CoreAttributeType)) (may : Bool) : Type 0 where
  pub up : AreSortedByName own
  pub so_far : ConsistentSoFar own IsOpen IsCoreOpen Whole at (item ∷ rest)
  pub on : at ≤ place
  pub passed : (i : ℕ) (d : String Global × AttributeType) → at ≤ i → i < place → text_cmp (text_at own i d) (core_text item) ≡ Less
  pub stays : (d : String Global × AttributeType) → place < length own → text_cmp (text_at own place d) (core_text item) ≢ Less
  pub admits : Decides may (AllByRecursion (MayBeMissing IsOpen IsCoreOpen) (plain_attributes (take (place - at) (drop at own))))

-- a walk on in the list that a record holds is such a one
pub step_of : (attrs : Attributes) (own : List (String Global × AttributeType)) (IsOpen IsCoreOpen Whole : Type 0) (at place : ℕ)
    (item : String Global × CoreAttributeType) (rest : List (String Global × CoreAttributeType)) (may : Bool) → own ≡ pairs_of attrs
    → ConsistentSoFar own IsOpen IsCoreOpen Whole at (item ∷ rest) → at ≤ place → Sought attrs at place (core_text item)
    → Decides may (AllByRecursion (MayBeMissing IsOpen IsCoreOpen) (plain_attributes (take (place - at) (drop at own))))
    → ConsistentStep own IsOpen IsCoreOpen Whole at place item rest may
step_of attrs own IsOpen IsCoreOpen Whole at place item rest may is so_far on sought admits =
    let PassesTo : List (String Global × AttributeType) → Type 0 = λ pairs.
    ((i : ℕ) (d : String Global × AttributeType) → at ≤ i → i < place → text_cmp (text_at pairs i d) (core_text item) ≡ Less)
    × ((d : String Global × AttributeType) → place < length pairs → text_cmp (text_at pairs place d) (core_text item) ≢ Less) in
    let both = subst PassesTo (sym is) (sought.passed, sought.stays) in
    record {
      up = subst AreSortedByName (sym is) (out-Attributes attrs).attrs.value.sorted_by_name;
      so_far = so_far;
      on = on;
      passed = both.0;
      stays = both.1;
      admits = admits;
    }

module _ {own : List (String Global × AttributeType)} {IsOpen IsCoreOpen Whole : Type 0} {at place : ℕ}
    {item : String Global × CoreAttributeType} {rest : List (String Global × CoreAttributeType)} {may : Bool}
    (step : ConsistentStep own IsOpen IsCoreOpen Whole at place item rest may) where
  -- what is passed
  abbrev front : List (String Global × AttributeType)
  front = take (place - at) (drop at own)

  -- all before the place is below
  before : AllBelow text_of text_cmp own place (core_text item)
  before = Ahead-sought text_of core_text text_cmp text_cmp-total own at place item rest step.so_far.ahead step.passed

  -- none of what is passed is in the other record
  front_fresh : AllByRecursion (λ one. ¬ Contains (core_names (core_fields_from (map core_entry (item ∷ rest)))) one.0) (plain_attributes front)
  front_fresh =
      all-seen (λ pair. text_cmp (string_bytes pair.0) (core_text item) ≡ Less)
      (λ one. ¬ Contains (core_names (core_fields_from (map core_entry (item ∷ rest)))) one.0) plain_entry
      (λ pair less. subst (λ names. ¬ Contains names (string_bytes pair.0)) (sym (core_names-entries (item ∷ rest)))
      (below_each-apart text_cmp text_cmp-total (string_bytes pair.0) (map core_text (item ∷ rest)) (
        less,
        below_all text_cmp text_cmp-total (string_bytes pair.0) (core_text item) less (map core_text rest)
            (others-above (core_text item) (map core_text rest) step.so_far.ahead.up),
      )))
      front (taken-all (λ pair. text_cmp (string_bytes pair.0) (core_text item) ≡ Less) own at (place - at)
      (λ i d low high. step.passed i d low (omega (arith, step.on, high))))

  -- what is passed may be missing, and what is left is consistent, exactly where the whole is
  passed-tells : (AllByRecursion (MayBeMissing IsOpen IsCoreOpen) (plain_attributes front) × AreLeft IsOpen IsCoreOpen (drop place own) (item ∷ rest)) ↔ Whole
  passed-tells =
      let split : plain_attributes (drop at own) ≡ plain_attributes front ++ plain_attributes (drop place own) =
      ap plain_attributes (sym (take-append-drop (place - at) (drop at own))
      ∙ ap (λ others. front ++ others) (drop-drop (place - at) at own ∙ ap (λ n. drop n own) (omega (arith, step.on))))
      ∙ map-append plain_entry front (drop place own) in
      let both = consistent-front IsOpen IsCoreOpen (plain_attributes front) (plain_attributes (drop place own))
      (core_fields_from (map core_entry (item ∷ rest))) front_fresh in
      (λ parts. step.so_far.decides.0 (rw split (both.0 parts)), λ whole. both.1 (rw split at (step.so_far.decides.1 whole)))

  -- where what is passed may not be missing, the whole isn't consistent
  pub passed-fails : may ≡ false → Decides false Whole
  passed-fails fails = part_fails passed-tells (λ all. absurd (let there = step.admits.1 all in cc))

  module _ (passed : may ≡ true) (found : Bool) (tells : Decides found (IsAt own place (core_text item))) where
    -- where it may, what is left tells the whole
    left : AreLeft IsOpen IsCoreOpen (drop place own) (item ∷ rest) ↔ Whole
    left = rest_alone passed-tells (step.admits.0 passed)

    module _ (met : found ≡ true) (x : String Global × AttributeType) (is : x ≡ get_or own place x) (b : Bool)
        (consistent : Decides b (IsConsistent (attribute_of x.1).1 (core_attribute_of item.1).1)) where
      -- the name is at the place
      here : IsAt own place (core_text item)
      here = tells.0 met

      -- where the name is in both, their types and what is left tell the whole
      met-tells : (IsConsistent (attribute_of x.1).1 (core_attribute_of item.1).1 × AreLeft IsOpen IsCoreOpen (drop (place + 1) own) rest) ↔ Whole
      met-tells =
          let split : drop place own ≡ x ∷ drop (place + 1) own = drop-at own place x here.0 is in
          let same : string_bytes x.0 ≡ core_text item = ap (λ pair. string_bytes pair.0) is ∙ here.1 x in
          let others = core_fields_from (map core_entry rest) in
          let others_fresh : ¬ Contains (core_names others) (core_text item) =
          subst (λ names. ¬ Contains names (core_text item)) (sym (core_names-entries rest))
          (below_each-apart text_cmp text_cmp-total (core_text item) (map core_text rest)
          (others-above (core_text item) (map core_text rest) step.so_far.ahead.up)) in
          let own_fresh : ¬ Contains (field_names (fields_from (plain_attributes (drop (place + 1) own)))) (core_text item) =
          subst (λ names. ¬ Contains names (core_text item)) (sym (field_names-entries (drop (place + 1) own)))
          (subst (λ name. ¬ Contains (entry_texts (drop (place + 1) own)) name) same
          (below_each-apart text_cmp text_cmp-total (string_bytes x.0) (entry_texts (drop (place + 1) own))
          (others-above (string_bytes x.0) (entry_texts (drop (place + 1) own))
          (subst (IsStrictlySortedBy text_cmp) (ap entry_texts split) (rises-from text_of text_cmp own place step.up))))) in
          let both = consistent-both IsOpen IsCoreOpen (core_text item) (attribute_of x.1).0 (attribute_of x.1).1
          (fields_from (plain_attributes (drop (place + 1) own))) (core_attribute_of item.1).0 (core_attribute_of item.1).1
          others own_fresh others_fresh in
          let LeftTell : List (String Global × AttributeType) → Type 0 = λ pairs. AreLeft IsOpen IsCoreOpen pairs (item ∷ rest) ↔ Whole in
          let NamedTell : Text → Type 0 = λ name. AreConsistent (fields_from ((name, attribute_of x.1) ∷ plain_attributes (drop (place + 1) own)))
          (core_fields_from (map core_entry (item ∷ rest))) IsOpen IsCoreOpen ↔ Whole in
          let whole = subst NamedTell same (subst LeftTell split left) in
          (λ parts. whole.0 (both.0 parts), λ all. both.1 (whole.1 all))

      -- where their types aren't consistent, the whole isn't
      pub met-fails : b ≡ false → Decides false Whole
      met-fails fails = part_fails met-tells (λ all. absurd (let there = consistent.1 all in cc))

      -- and where they are, the walk goes on past it
      pub met-next : b ≡ true → ConsistentSoFar own IsOpen IsCoreOpen Whole (place + 1) rest
      met-next holds = record {
        within = let inside = here.0 in omega (arith, inside);
        ahead = Ahead-past text_of core_text text_cmp text_cmp-total own place item rest step.so_far.ahead.up
            (Ahead-next text_of core_text text_cmp text_cmp-total own at place item rest step.so_far.ahead before) here.1;
        decides = rest_alone met-tells (consistent.0 holds);
      }

    module _ (alone : found ≡ false) (b : Bool) (lacks : Decides b ((item.1.required ≡ false) ⊎ IsOpen)) where
      -- where the name is in the other record alone, whether it may be missing and what is left
      -- tell the whole
      alone-tells : (((item.1.required ≡ false) ⊎ IsOpen) × AreLeft IsOpen IsCoreOpen (drop place own) rest) ↔ Whole
      alone-tells =
          let fresh : ¬ Contains (field_names (fields_from (plain_attributes (drop place own)))) (core_text item) =
          subst (λ names. ¬ Contains names (core_text item)) (sym (field_names-entries (drop place own)))
          (λ among. missed text_of text_cmp text_cmp-total own step.up (core_text item) place before step.stays
          (λ at_place. absurd (let there = tells.1 at_place in cc)) (seen-from text_of own place (core_text item) among)) in
          let both = consistent-other IsOpen IsCoreOpen (fields_from (plain_attributes (drop place own))) (core_text item)
          (core_attribute_of item.1).0 (core_attribute_of item.1).1 (core_fields_from (map core_entry rest)) fresh in
          rw (← (flag_of item.1)) (λ parts. left.0 (both.0 parts), λ all. both.1 (left.1 all))

      -- where it may not be missing, the whole isn't consistent
      pub alone-fails : b ≡ false → Decides false Whole
      alone-fails fails = part_fails alone-tells (λ all. absurd (let there = lacks.1 all in cc))

      -- and where it may, the walk goes on from the place
      pub alone-next : place ≤ length own → b ≡ true → ConsistentSoFar own IsOpen IsCoreOpen Whole place rest
      alone-next inside holds = record {
        within = inside;
        ahead = Ahead-next text_of core_text text_cmp text_cmp-total own at place item rest step.so_far.ahead before;
        decides = rest_alone alone-tells (lacks.0 holds);
      }

-- at last what is left of the one record tells the whole
pub consistent-last : (own : List (String Global × AttributeType)) (IsOpen IsCoreOpen Whole : Type 0) (at : ℕ)
    → ConsistentSoFar own IsOpen IsCoreOpen Whole at []
    → AllByRecursion (MayBeMissing IsOpen IsCoreOpen) (plain_attributes (take (length own - at) (drop at own))) ↔ Whole
consistent-last own IsOpen IsCoreOpen Whole at so_far =
    let both = consistent-left IsOpen IsCoreOpen (plain_attributes (drop at own)) in
    rw (take_all (length own - at) (drop at own) (omega (arith, length-drop at own))) (λ all. so_far.decides.0 (both.0 all), λ whole. both.1 (so_far.decides.1 whole))

-- the type of the attribute of a pair
abbrev pub attribute_type : String Global × AttributeType → «Type»
attribute_type pair = (out-AttributeType pair.1).attr_type.value

-- a test of two types tells whether what their attributes stand for is consistent
pub met_test : (x : String Global × AttributeType) (other : CoreAttributeType) (ty : «Type») → ty ≡ attribute_type x → (b : Bool)
    → Decides b (IsConsistent (ty_of ty) (core_ty_of other.attr_type))
    → Decides b (IsConsistent (attribute_of x.1).1 (core_attribute_of other).1)
met_test x other ty is b decides =
    let own : ty_of ty ≡ (attribute_of x.1).1 = ap ty_of is ∙ sym (ap (λ both. both.1) (attribute_of-parts x.1)) in
    let core : core_ty_of other.attr_type ≡ (core_attribute_of other).1 = sym (ap (λ both. both.1) (core_attribute_of-parts other)) in
    subst (λ of. Decides b (IsConsistent (attribute_of x.1).1 of)) core
    (subst (λ of. Decides b (IsConsistent of (core_ty_of other.attr_type))) own decides)
