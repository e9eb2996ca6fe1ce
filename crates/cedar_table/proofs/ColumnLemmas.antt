-- A table as two columns: its keys, and the values at their places.
use Rattle.std.proofs.Common.{◌≡◌, ◌∙◌, ◌++◌, [], ◌∷◌, ℕ, IfNone, IfSome, List, None, Option, Some, ap, arith, get_or, length, option_map, refl, slice_get, subst, sym}
use Rattle.std.proofs.lemmas.List.{length-append}
use Rattle.std.proofs.lemmas.Map.Entries.{length-values_of, place_from_lookup}
use Rattle.std.proofs.lemmas.Map.Made.{keys_of-zip}
use Rattle.std.proofs.lemmas.Option.{get_or_from_slice_get, slice_get-map, slice_get_within}
use Rattle.std.proofs.lemmas.Slice.Zip.{get_or-zip, seconds-zip}
use Rattle.std.specs.BTreeMap.{is_at}
use Rattle.std.specs.Cmp.{Equal-is, IsTotalOrder}
use Rattle.std.specs.List.{zip}
use Rattle.std.specs.List.Sorted.{IsStrictlySortedBy}
use Rattle.std.specs.Map.{keys_of, lookup, values_of}
use Rattle.std.specs.declared.cmp.Ordering.{Ordering}
use Rattle.cedar_table.proofs.SearchLemmas.{found_at}
use Rattle.cedar_table.specs.Words.{Entries, KeyStandsAt, StandsAt, get_by}

-- what is never some value is none
none_from_no_some : {X : Type 0} (option : Option X) → ((x : X) → ¬ (option ≡ Some x)) → option ≡ None
none_from_no_some None never = refl
none_from_no_some (Some x) never = absurd (never x refl)

-- a key and a value behind two columns of one length are an entry behind theirs
pub zip_behind : {K V : Type 0} (keys : List K) (values : List V) (key : K) (value : V) → length values ≡ length keys
    → zip (keys ++ key ∷ []) (values ++ value ∷ []) ≡ zip keys values ++ (key, value) ∷ []
zip_behind [] [] key value len = refl
zip_behind (first ∷ keys) (other ∷ values) key value len =
    ap (λ entries. (first, other) ∷ entries) (zip_behind keys values key value (omega (arith, len)))
zip_behind [] (other ∷ values) key value len = absurd (omega (arith, len))
zip_behind (first ∷ keys) [] key value len = absurd (omega (arith, len))

-- so the last key and the last value of two columns of one length are the last entry
pub taken_behind : {K V : Type 0} (keys : List K) (values : List V) → length values ≡ length keys
    → (left : List K) (others : List V) (key : K) (value : V) → keys ≡ left ++ key ∷ [] → values ≡ others ++ value ∷ []
    → zip keys values ≡ zip left others ++ (key, value) ∷ []
taken_behind keys values len left others key value of_keys of_values =
    let one = ap length of_keys ∙ length-append left (key ∷ []) in
    let other = ap length of_values ∙ length-append others (value ∷ []) in
    (λ i. zip (of_keys i) (of_values i)) ∙ zip_behind left others key value (omega (arith, one, other, len))

module _ {K V : Type 0} (keys : List K) (values : List V) (len : length values ≡ length keys) where
  -- there are as many entries as values
  pub count : length (zip keys values) ≡ length values
  count = sym (length-values_of (zip keys values)) ∙ ap length (seconds-zip keys values len)

  -- and as many as keys
  pub as_many : length (zip keys values) ≡ length keys
  as_many = count ∙ len

  -- what a table of two columns holds
  pub columns : (table : Entries K V) → record { entries = zip keys values } ≡ table
      → (keys_of table.entries ≡ keys) × (values_of table.entries ≡ values) × (length table.entries ≡ length values)
  columns table is = (
    ap (λ it. keys_of it.entries) (sym is) ∙ keys_of-zip keys values len,
    ap (λ it. values_of it.entries) (sym is) ∙ seconds-zip keys values len,
    ap (λ it. length it.entries) (sym is) ∙ count,
  )

  -- its keys are in order where those of the column are
  pub in_order : (R : K → K → Ordering) (table : Entries K V) → record { entries = zip keys values } ≡ table
      → IsStrictlySortedBy R keys → IsStrictlySortedBy R (keys_of table.entries)
  in_order R table is sorted = subst (λ each. IsStrictlySortedBy R each) (sym (columns table is).0) sorted

  module _ (cmp : K → K → Ordering) (key : K) where
    -- the entry of a key stands where the key does
    pub stands : (place : ℕ) → KeyStandsAt cmp keys key place → StandsAt cmp (zip keys values) key place
    stands place it = (
      omega (arith, it.0, count, len),
      λ d. ap (λ entry. cmp key entry.0) (get_or-zip keys values place d it.0 (omega (arith, it.0, len))) ∙ it.1 d.0,
    )

    -- its value is found
    pub found : IsTotalOrder cmp → IsStrictlySortedBy cmp keys → (place : ℕ) (value : V) → KeyStandsAt cmp keys key place
        → lookup (is_at (cmp key)) (zip keys values) ≡ Some (get_or values place value)
    found total sorted place value it =
        found_at total (zip keys values) (subst (λ each. IsStrictlySortedBy cmp each) (sym (keys_of-zip keys values len)) sorted)
        key place (key, value) (stands place it)
        ∙ ap (λ entry. Some entry.1) (get_or-zip keys values place (key, value) it.0 (omega (arith, it.0, len)))

    -- nothing is found where the key stands nowhere
    pub not_found : ((place : ℕ) → ¬ KeyStandsAt cmp keys key place) → lookup (is_at (cmp key)) (zip keys values) ≡ None
    not_found nowhere = none_from_no_some (lookup (is_at (cmp key)) (zip keys values)) (λ value is.
        let it = place_from_lookup (is_at (cmp key)) (zip keys values) value is in
        let there = ap (λ each. slice_get each it.0) (sym (keys_of-zip keys values len))
        ∙ (slice_get-map (λ (entry : K × V). entry.0) (zip keys values) it.0 ∙ ap (option_map (λ (entry : K × V). entry.0)) it.2) in
        nowhere it.0 (
          slice_get_within keys it.0 it.1 there,
          λ d. ap (cmp key) (get_or_from_slice_get keys it.0 it.1 d there) ∙ (Equal-is (cmp key it.1)).0 it.3,
        ))

    -- so what is said of the place of a key is said of that of its entry
    pub place_of_entry : (table : Entries K V) → record { entries = zip keys values } ≡ table → (place : Option ℕ)
        → IfSome place (KeyStandsAt cmp keys key) → IfSome place (StandsAt cmp table.entries key)
    place_of_entry table is None there = tt
    place_of_entry table is (Some place) there = subst (λ it. StandsAt cmp it.entries key place) is (stands place there)

    -- and where it has none there is no entry
    pub no_entry : (table : Entries K V) → record { entries = zip keys values } ≡ table → (place : Option ℕ)
        → IfNone place ((place : ℕ) → ¬ KeyStandsAt cmp keys key place) → IfNone place (get_by (cmp key) table ≡ None)
    no_entry table is None nowhere = ap (λ it. get_by (cmp key) it) (sym is) ∙ not_found nowhere
    no_entry table is (Some place) nowhere = tt
