-- Steps of the walk that tells whether one record is below another.
use Rattle.std.proofs.Common.{◌↔◌, ◌≡◌, ◌≢◌, ◌<◌, ◌≤◌, ℕ, Bool, true, false, refl, List, length, get_or, Some, None, ap, subst, ◌∙◌, string_bytes, ◌∷◌, arith, nat_eq, Contains}
use Rattle.std.proofs.lemmas.Bool.Decides.{Decides-eqb}
use Rattle.std.specs.Bool.{Decides}
use Rattle.std.specs.Option.{option_map}
use Rattle.std.specs.declared.alloc.Global.{Global}
use Rattle.std.specs.declared.cmp.Ordering.TheVariants.{Less}
use Rattle.std.specs.declared.string.String.{String}
use Rattle.cedar_ast.proofs.Inclusion.{rest_alone, part_fails}
use Rattle.cedar_ast.proofs.Texts.{text_cmp-total}
use Rattle.cedar_name_map.proofs.RisingLemmas.{Included-back, Ahead, AllBelow, Ahead-first, Ahead-sought, Ahead-next, sought-Decides, sought-next}
use Rattle.cedar_name_map.proofs.SearchLemmas.{text_of, text_at, value_at-place, value_at-missed}
use Rattle.cedar_type_rules.proofs.AntisymmetryLaws.{Included-same}
use Rattle.cedar_type_rules.proofs.SubtypeLaws.{FieldsBelow-names}
use Rattle.cedar_type_rules.proofs.SubtypeLemmas.{HasBelow, HasBelow-Decides, HasBelow-none}
use Rattle.cedar_types.proofs.FieldLemmas.{field_at-pairs, length-fields}
use Rattle.cedar_types.specs.Words.{AttributeBelow, AttributeType, Attributes, ByName, ClosedAttributes, Fields, FieldsBelow, Included, IsSortedByName, IsSortedByName-fields, NamesBelow, OpenTag, Permissive, Strict, Text, ValidationMode, attribute_of, field_at, field_names, field_names-pairs, fields_from, fields_of, fields_of-pairs, out-Attributes, pairs_of, plain_attributes, text_cmp}

-- pairs of a name and an attribute
abbrev Pairs : Type 0
Pairs = List (String Global × AttributeType)

-- a walk over both records: what is left of the upper decides about the whole, and its names are
-- ahead
abbrev pub WalkedBelow : ValidationMode → Attributes → Attributes → ℕ → Pairs → Type 0
WalkedBelow mode lower upper at rest =
    (FieldsBelow mode (fields_of lower) (fields_from (plain_attributes rest)) ↔ FieldsBelow mode (fields_of lower) (fields_of upper))
    × Ahead text_of text_of text_cmp (pairs_of lower) at rest

-- at first all is left
pub WalkedBelow-first : (mode : ValidationMode) (lower upper : Attributes) → WalkedBelow mode lower upper 0 (pairs_of upper)
WalkedBelow-first mode lower upper = (
  rw (← (fields_of-pairs upper)) (λ h. h, λ h. h),
  Ahead-first text_of text_of text_cmp text_cmp-total (pairs_of lower) (pairs_of upper) (out-Attributes upper).attrs.value.sorted_by_name,
)

-- what a walk on to a name knows: it passes only names below, and comes to one that isn't
pub record Sought (lower : Attributes) (at place : ℕ) (name : Text) : Type 0 where
  pub passed : (i : ℕ) (d : String Global × AttributeType) → at ≤ i → i < place → text_cmp (text_at (pairs_of lower) i d) name ≡ Less
  pub stays : (d : String Global × AttributeType) → place < length (pairs_of lower) → text_cmp (text_at (pairs_of lower) place d) name ≢ Less

-- a walk on in the list that a record holds is one in its pairs
pub Sought-held : (lower : Attributes) (at place : ℕ) (held : ByName AttributeType) (text name : Text)
    → held ≡ (out-Attributes lower).attrs.value → text ≡ name
    → ((i : ℕ) (d : String Global × AttributeType) → at ≤ i → i < place → text_cmp (text_at held.entries.items i d) text ≡ Less)
    → ((d : String Global × AttributeType) → place < length held.entries.items → text_cmp (text_at held.entries.items place d) text ≢ Less)
    → Sought lower at place name
Sought-held lower at place held text name is same passed stays =
    let PassesTo : ByName AttributeType → Text → Type 0 = λ all sought.
    ((i : ℕ) (d : String Global × AttributeType) → at ≤ i → i < place → text_cmp (text_at all.entries.items i d) sought ≡ Less)
    × ((d : String Global × AttributeType) → place < length all.entries.items → text_cmp (text_at all.entries.items place d) sought ≢ Less) in
    let both = rw same at (subst (λ all. PassesTo all text) is (passed, stays)) in
    record { passed = both.0; stays = both.1 }

-- a name is at a place of a list
abbrev pub IsAt : List (String Global × AttributeType) → ℕ → Text → Type 0
IsAt all place name = (place < length all) × ((d : String Global × AttributeType) → text_at all place d ≡ name)

-- whether a name is at a place of the list that a record holds tells whether it is at that place of
-- its pairs
pub IsAt-held : (lower : Attributes) (place : ℕ) (held : ByName AttributeType) (text name : Text) (b : Bool)
    → held ≡ (out-Attributes lower).attrs.value → text ≡ name → Decides b (IsAt held.entries.items place text)
    → Decides b (IsAt (pairs_of lower) place name)
IsAt-held lower place held text name b is same decides = rw (is, same) at decides

module _ (attrs : Attributes) (at place : ℕ) (name : String Global) (rest : List (String Global))
    (ahead : Ahead text_of string_bytes text_cmp (pairs_of attrs) at (name ∷ rest))
    (sought : Sought attrs at place (string_bytes name)) where
  -- whether a name is at the place that a walk over names came to decides whether it is one of a
  -- record's
  pub sought-name : (b : Bool) → Decides b (IsAt (pairs_of attrs) place (string_bytes name))
      → Decides b (Contains (field_names (fields_of attrs)) (string_bytes name))
  sought-name b decides =
      rw (field_names-pairs attrs) (sought-Decides text_of string_bytes text_cmp text_cmp-total (pairs_of attrs) (out-Attributes attrs).attrs.value.sorted_by_name
      at place name rest ahead sought.passed sought.stays b decides)

  -- the walk over names goes on from the place
  pub sought-on : Ahead text_of string_bytes text_cmp (pairs_of attrs) place rest
  sought-on =
      sought-next text_of string_bytes text_cmp text_cmp-total (pairs_of attrs) (out-Attributes attrs).attrs.value.sorted_by_name
      at place name rest ahead sought.passed sought.stays

module _ (mode : ValidationMode) (lower upper : Attributes) (at place : ℕ) (item : String Global × AttributeType) (rest : Pairs)
    (walked : WalkedBelow mode lower upper at (item ∷ rest)) (sought : Sought lower at place (string_bytes item.0)) where
  -- the names before the place are below
  all_below : AllBelow text_of text_cmp (pairs_of lower) place (string_bytes item.0)
  all_below = Ahead-sought text_of text_of text_cmp text_cmp-total (pairs_of lower) at place item rest walked.1 sought.passed

  -- the name at the place has the attribute there
  found_at : (d : String Global × AttributeType) → place < length (pairs_of lower) → text_at (pairs_of lower) place d ≡ string_bytes item.0
      → field_at (string_bytes item.0) (fields_of lower) ≡ Some (attribute_of (get_or (pairs_of lower) place d).1)
  found_at d within is =
      field_at-pairs (string_bytes item.0) lower ∙ ap (option_map attribute_of)
      (value_at-place (pairs_of lower) (out-Attributes lower).attrs.value.sorted_by_name (string_bytes item.0) place d within is)

  -- whether the attribute at the place is below decides whether the lower has one below
  at_decides : (d : String Global × AttributeType) (b : Bool) → place < length (pairs_of lower)
      → text_at (pairs_of lower) place d ≡ string_bytes item.0
      → Decides b (AttributeBelow mode (attribute_of (get_or (pairs_of lower) place d).1) (attribute_of item.1))
      → Decides b (HasBelow mode (fields_of lower) (string_bytes item.0) (attribute_of item.1).0 (attribute_of item.1).1)
  at_decides d b within is decides =
      HasBelow-Decides mode (fields_of lower) (string_bytes item.0) (attribute_of item.1)
      (attribute_of (get_or (pairs_of lower) place d).1) b (IsSortedByName-fields lower) (found_at d within is) decides

  -- where the name isn't at the place, the lower record hasn't the attribute
  pub WalkedBelow-missed : ¬ IsAt (pairs_of lower) place (string_bytes item.0) → Decides false (FieldsBelow mode (fields_of lower) (fields_of upper))
  WalkedBelow-missed missed =
      let none : field_at (string_bytes item.0) (fields_of lower) ≡ None =
      field_at-pairs (string_bytes item.0) lower ∙ ap (option_map attribute_of)
      (value_at-missed (pairs_of lower) (out-Attributes lower).attrs.value.sorted_by_name (string_bytes item.0) place
      all_below sought.stays missed) in
      part_fails walked.0
      (HasBelow-none mode (fields_of lower) (string_bytes item.0) (attribute_of item.1) (IsSortedByName-fields lower) none)

  -- where the attribute at the place isn't below, the lower record isn't
  pub WalkedBelow-fails : (d : String Global × AttributeType) → IsAt (pairs_of lower) place (string_bytes item.0)
      → Decides false (AttributeBelow mode (attribute_of (get_or (pairs_of lower) place d).1) (attribute_of item.1))
      → Decides false (FieldsBelow mode (fields_of lower) (fields_of upper))
  WalkedBelow-fails d here decides =
      part_fails walked.0 (λ has. absurd (let fits = (at_decides d false here.0 (here.1 d) decides).1 has in cc))

  -- where it is, the walk goes on
  pub WalkedBelow-next : (d : String Global × AttributeType) → IsAt (pairs_of lower) place (string_bytes item.0)
      → Decides true (AttributeBelow mode (attribute_of (get_or (pairs_of lower) place d).1) (attribute_of item.1))
      → WalkedBelow mode lower upper place rest
  WalkedBelow-next d here decides = (
    rest_alone walked.0 ((at_decides d true here.0 (here.1 d) decides).0 refl),
    Ahead-next text_of text_of text_cmp text_cmp-total (pairs_of lower) at place item rest walked.1 all_below,
  )

-- a record that has each attribute of another has no further name exactly where it has as many
pub Included-counts : (mode : ValidationMode) (lower upper : Fields) → IsSortedByName lower → IsSortedByName upper
    → FieldsBelow mode lower upper
    → (length (field_names lower) ≡ length (field_names upper)) ↔ Included (field_names lower) (field_names upper)
Included-counts mode lower upper first second below =
    let there = FieldsBelow-names mode lower upper below in (
      λ same. Included-back text_cmp text_cmp-total (field_names upper) (field_names lower) second first there (omega (arith, same)),
      λ all. ap length (Included-same text_cmp text_cmp-total (field_names lower) (field_names upper) first second all there),
    )

-- in strict mode that tells whether it has no further name
pub NamesBelow-strict : (mode : ValidationMode) (openness : OpenTag) (lower upper : Fields) (as_many : Bool) → mode ≡ Strict
    → IsSortedByName lower → IsSortedByName upper → Decides as_many (length (field_names lower) ≡ length (field_names upper))
    → FieldsBelow mode lower upper → Decides as_many (NamesBelow mode openness lower upper)
NamesBelow-strict mode openness lower upper as_many is first second decides =
    rw is (λ below. let counts = Included-counts Strict lower upper first second below in
    (λ e. counts.0 (decides.0 e), λ all. decides.1 (counts.1 all)))

-- and below a closed record too
pub NamesBelow-closed : (mode : ValidationMode) (openness : OpenTag) (lower upper : Fields) (as_many : Bool) → mode ≡ Permissive
    → openness ≡ ClosedAttributes → IsSortedByName lower → IsSortedByName upper
    → Decides as_many (length (field_names lower) ≡ length (field_names upper))
    → FieldsBelow mode lower upper → Decides as_many (NamesBelow mode openness lower upper)
NamesBelow-closed mode openness lower upper as_many is closed first second decides =
    rw is (λ below. let counts = Included-counts Permissive lower upper first second below in
    rw closed (λ e. counts.0 (decides.0 e), λ all. decides.1 (counts.1 all)))

-- whether the lists that two records hold are of one length tells whether they have as many names
pub counts-Decides : (lower upper : Attributes) (own other : Pairs) → own ≡ pairs_of lower → other ≡ pairs_of upper
    → Decides (nat_eq (length own) (length other)) (length (field_names (fields_of lower)) ≡ length (field_names (fields_of upper)))
counts-Decides lower upper own other first second =
    let one : length own ≡ length (field_names (fields_of lower)) = ap length first ∙ length-fields lower _ refl in
    let two : length other ≡ length (field_names (fields_of upper)) = ap length second ∙ length-fields upper _ refl in
    rw (← one, ← two) (Decides-eqb (length own) (length other))

-- whether an attribute of the list that a record holds is below another
pub AttributeBelow-held : (mode : ValidationMode) (lower : Attributes) (own : Pairs) (place : ℕ) (d item : String Global × AttributeType)
    (b answer : Bool) → own ≡ pairs_of lower → answer ≡ b
    → Decides answer (AttributeBelow mode (attribute_of (get_or own place d).1) (attribute_of item.1))
    → Decides b (AttributeBelow mode (attribute_of (get_or (pairs_of lower) place d).1) (attribute_of item.1))
AttributeBelow-held mode lower own place d item b answer same is decides = rw (same, is) at decides
