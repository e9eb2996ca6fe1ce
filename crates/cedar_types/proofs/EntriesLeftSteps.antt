-- Steps of a walk over the entries of a record, past those of lesser names.
use Rattle.std.proofs.Common.{◌≡◌, ◌≢◌, false, refl, sym, ap, ◌∙◌, List, [], ◌∷◌, string_bytes, Option, None, Some, if◌then◌else◌, arith}
use Rattle.std.proofs.lemmas.Bool.{false_from_ne_true}
use Rattle.std.proofs.lemmas.Simd.{map-map}
use Rattle.std.specs.Cmp.{tied_itself}
use Rattle.std.specs.Cmp.Lexicographic.{bytes_decides}
use Rattle.std.specs.List.{AllByRecursion}
use Rattle.std.specs.List.Sorted.{IsStrictlySortedBy}
use Rattle.std.specs.Map.{keys_of}
use Rattle.std.specs.Map.Iter.{TakesFirst, deref_pair}
use Rattle.std.specs.Str.{bytes_eq}
use Rattle.std.specs.String.{string_cmp}
use Rattle.std.specs.declared.alloc.Global.{Global}
use Rattle.std.specs.declared.cmp.Ordering.TheVariants.{Less, Equal, Greater}
use Rattle.std.specs.declared.string.String.{String}
use Rattle.cedar_ast.proofs.Ordered.{apart, IsStrictlySortedBy-map}
use Rattle.cedar_ast.proofs.Texts.{text_cmp-total, text_cmp-Equal}
use Rattle.cedar_name_map.proofs.MadeLemmas.{value_at-cons}
use Rattle.cedar_name_map.proofs.SearchLemmas.{same-found, value_at-missed}
use Rattle.cedar_types.specs.Words.{AreSortedByName, EntriesLeft, RestrictedExpr, Text, entries_left, entry_texts, text_cmp, value_at}
use denote.Ref.{Bor}

-- pairs whose keys are sorted without duplicates have names that do
pub AreSortedByName-keys : {V : Type 0} (entries : List (String Global × V)) → IsStrictlySortedBy string_cmp (keys_of entries)
    → AreSortedByName entries
AreSortedByName-keys entries sorted =
    rw (map-map string_bytes (λ entry. entry.0) entries) at (IsStrictlySortedBy-map string_cmp text_cmp string_bytes (λ a b. refl) (keys_of entries) sorted)

-- where there is a first, it stands before those that follow
pub entries_left-first : (left : EntriesLeft) (entry : Bor (String Global) × Bor RestrictedExpr) → left.first ≡ Some entry
    → entries_left left ≡ deref_pair entry ∷ left.rest
entries_left-first left entry is = ap (λ first. entries_left (record { first = first; rest = left.rest })) is

-- where there is no first, none is left
pub entries_left-none : (left : EntriesLeft) → left.first ≡ None → entries_left left ≡ []
entries_left-none left is = ap (λ first. entries_left (record { first = first; rest = left.rest })) is

-- the entry that comes next and those that follow are those that were to come
pub entries_left-next : (all : List (String Global × RestrictedExpr)) (first : Option (Bor (String Global) × Bor RestrictedExpr))
    (rest : List (String Global × RestrictedExpr)) → TakesFirst deref_pair all first rest
    → entries_left (record { first = first; rest = rest }) ≡ all
entries_left-next all None rest takes = sym takes.0
entries_left-next all (Some entry) rest takes = sym takes

-- a walk that passes only lesser names: what is left is sorted, and each name that isn't less finds
-- what it did before
pub record IsPast {V : Type 0} (name : Text) (all left : List (String Global × V)) : Type 0 where
  pub ascend : AreSortedByName left
  pub keeps : (other : Text) → text_cmp other name ≢ Less → value_at other left ≡ value_at other all

module _ {V : Type 0} (name : Text) (all : List (String Global × V)) where
  module _ (x : String Global × V) (rest : List (String Global × V)) (past : IsPast name all (x ∷ rest)) where
    -- a lesser name is passed
    pub IsPast-next : text_cmp (string_bytes x.0) name ≡ Less → IsPast name all rest
    unfolding IsStrictlySortedBy
    IsPast-next less = record {
      ascend = past.ascend.1;
      keeps = λ other from.
          let differs : bytes_eq other (string_bytes x.0) ≡ false =
          false_from_ne_true (bytes_eq other (string_bytes x.0)) (λ same.
          from (ap (λ text. text_cmp text name) ((bytes_decides other (string_bytes x.0)).0 same) ∙ less)) in
          sym (value_at-cons other x rest ∙ ap (λ b. if b then Some x.1 else value_at other rest) differs) ∙ past.keeps other from;
    }

    -- where a name that isn't less is come to, lesser names find nothing
    pub IsPast-passed : text_cmp (string_bytes x.0) name ≢ Less → (other : Text) → text_cmp other name ≡ Less
        → value_at other (x ∷ rest) ≡ None
    IsPast-passed from other below =
        value_at-missed (x ∷ rest) past.ascend other 0 (λ i d low. absurd (omega (arith, low)))
        (λ d within less. from (text_cmp-total.trans (string_bytes x.0) other name less below))
        (λ here. from (ap (λ text. text_cmp text name) (here.1 x) ∙ below))

    -- what is left tells of the name itself
    itself : value_at name (x ∷ rest) ≡ value_at name all
    itself = past.keeps name (λ less. let tied = tied_itself text_cmp-total name in cc)

    -- the name that is come to has the value there
    pub IsPast-found : text_cmp (string_bytes x.0) name ≡ Equal → Some x.1 ≡ value_at name all
    IsPast-found equal =
        let same : string_bytes x.0 ≡ name = (text_cmp-Equal (string_bytes x.0) name).0 equal in
        sym (value_at-cons name x rest
        ∙ ap (λ b. if b then Some x.1 else value_at name rest) (same-found name (string_bytes x.0) same)) ∙ itself

    -- where a greater name is come to, the name has no value
    pub IsPast-missed : text_cmp (string_bytes x.0) name ≡ Greater → None ≡ value_at name all
    IsPast-missed greater =
        sym (value_at-missed (x ∷ rest) past.ascend name 0 (λ i d low. absurd (omega (arith, low)))
        (λ d within less. absurd cc)
        (λ here. let equal = (text_cmp-Equal (string_bytes x.0) name).1 (here.1 x) in absurd cc)) ∙ itself

  -- where nothing is left, the name has no value
  pub IsPast-none : IsPast name all [] → None ≡ value_at name all
  IsPast-none past = past.keeps name (λ less. let tied = tied_itself text_cmp-total name in cc)

-- what is left of entries serves each of the names that are left to look up: it is sorted, as they
-- do, and each of them finds what it does among all
pub record Serves {V W : Type 0} (all left : List (String Global × V)) (names : List (String Global × W)) : Type 0 where
  pub ascend : AreSortedByName left
  pub sought : AreSortedByName names
  pub finds : AllByRecursion (λ name. value_at name left ≡ value_at name all) (entry_texts names)

-- each name finds in a list what it finds there
finds-itself : {V : Type 0} (all left : List (String Global × V)) → left ≡ all → (names : List Text)
    → AllByRecursion (λ name. value_at name left ≡ value_at name all) names
finds-itself all left is [] = tt
finds-itself all left is (name ∷ names) = (ap (value_at name) is, finds-itself all left is names)

-- greater names find behind a lesser one what they found before
finds-past : {V : Type 0} (all before left : List (String Global × V)) (name : Text)
    → ((other : Text) → text_cmp other name ≢ Less → value_at other left ≡ value_at other before) → (names : List Text)
    → AllByRecursion (λ other. text_cmp name other ≡ Less) names
    → AllByRecursion (λ other. value_at other before ≡ value_at other all) names
    → AllByRecursion (λ other. value_at other left ≡ value_at other all) names
finds-past all before left name keeps [] above finds = tt
finds-past all before left name keeps (other ∷ names) above finds = (
  keeps other (λ less. apart text_cmp text_cmp-total name other above.0 less) ∙ finds.0,
  finds-past all before left name keeps names above.1 finds.1,
)

module _ {V W : Type 0} (all : List (String Global × V)) where
  -- at first all are left
  pub Serves-first : (left : List (String Global × V)) (names : List (String Global × W)) → left ≡ all → AreSortedByName left
      → AreSortedByName names → Serves all left names
  Serves-first left names is ascend sought =
      record { ascend = ascend; sought = sought; finds = finds-itself all left is (entry_texts names) }

  -- past a name, what is left serves those that follow
  pub Serves-next : (before left : List (String Global × V)) (item : String Global × W) (names : List (String Global × W))
      → Serves all before (item ∷ names) → AreSortedByName left
      → ((other : Text) → text_cmp other (string_bytes item.0) ≢ Less → value_at other left ≡ value_at other before)
      → Serves all left names
  unfolding IsStrictlySortedBy
  Serves-next before left item names serves ascend keeps = record {
    ascend = ascend;
    sought = serves.sought.1;
    finds = finds-past all before left (string_bytes item.0) keeps (entry_texts names) serves.sought.0 serves.finds.1;
  }
