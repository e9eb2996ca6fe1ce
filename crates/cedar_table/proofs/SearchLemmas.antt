-- What stands at a place of a list that is in the order of its keys, and what a look-up finds
-- there.
use Rattle.std.proofs.Common.{◌≡◌, ◌∙◌, ◌+◌, [], ℕ, List, Some, ap, arith, get_or, inl, inr, subst, sym}
use Rattle.std.proofs.lemmas.Bool.{cases_lt}
use Rattle.std.proofs.lemmas.List.Sorted.{searchable_from_sorted}
use Rattle.std.proofs.lemmas.Map.Entries.{lookup_from_place}
use Rattle.std.proofs.lemmas.Map.Keys.{IsDistinct-from_sorted, Less-from_sorted}
use Rattle.std.proofs.lemmas.Option.{slice_get-get_or}
use Rattle.std.specs.BTreeMap.{is_at}
use Rattle.std.specs.Cmp.{IsTotalOrder, eq_by_cmp_equiv}
use Rattle.std.specs.List.Sorted.{IsNonDecreasingBy, IsPartitionPoint, IsSortedBy, IsStrictlySortedBy}
use Rattle.std.specs.Map.{keys_of, lookup}
use Rattle.std.specs.Ordering.{is_lt, ordering_index, ordering_reverse}
use Rattle.std.specs.declared.cmp.Ordering.{Ordering}
use Rattle.std.specs.declared.cmp.Ordering.TheVariants.{Equal, Greater, Less}
use Rattle.cedar_table.specs.StandsAt.{KeyStandsAt, StandsAt}

-- no keys are in order
pub none_sorted : {K : Type 0} (R : K → K → Ordering) (keys : List K) → keys ≡ [] → IsStrictlySortedBy R keys
unfolding IsStrictlySortedBy
none_sorted {K = K} R keys empty = let P : List K → Type 0 = λ each. IsStrictlySortedBy R each in subst P (sym empty) tt

module _ {K V : Type 0} {R : K → K → Ordering} (total : IsTotalOrder R) (entries : List (K × V))
    (sorted : IsStrictlySortedBy R (keys_of entries)) where
  -- where a key stands, its value is found
  pub found_at : (key : K) (place : ℕ) (d : K × V) → StandsAt R entries key place
      → lookup (is_at (R key)) entries ≡ Some (get_or entries place d).1
  found_at key place d stands =
      let entry = get_or entries place d in
      ap (λ compare. lookup (is_at compare) entries) (λ i other. total.congr key entry.0 other (stands.1 d) i)
      ∙ lookup_from_place (eq_by_cmp_equiv total) entries place entry.0 entry.1 (IsDistinct-from_sorted R (keys_of entries) sorted)
      (slice_get-get_or entries place d stands.0)

module _ {K : Type 0} {R : K → K → Ordering} (total : IsTotalOrder R) (keys : List K) (sorted : IsStrictlySortedBy R keys) where
  -- each key is below the next one
  in_turn : IsSortedBy (λ a b. is_lt (R a b)) keys
  in_turn k d low high =
      ap is_lt (total.antisymm (get_or keys (k + 1) d) (get_or keys k d)
      ∙ ap ordering_reverse (Less-from_sorted R keys k (k + 1) d sorted (omega arith) high))

  -- where halving ends without a place, the key stands nowhere
  pub nowhere : (key : K) (split : ℕ)
      → (IsNonDecreasingBy (λ other. ordering_index (R other key)) keys
      → IsPartitionPoint (λ other. R other key ≡ Less) (λ other. R other key ≡ Greater) keys split)
      → (place : ℕ) → ¬ KeyStandsAt R keys key place
  nowhere key split parts place stands =
      let halves = parts (searchable_from_sorted total (λ other. other) keys key in_turn) in
      let ties : R (get_or keys place key) key ≡ Equal = total.antisymm (get_or keys place key) key ∙ ap ordering_reverse (stands.1 key) in
      elim (cases_lt place split) [
        | inl below ↦ omega (arith, ap ordering_index (sym ties ∙ halves.0 place key (omega arith) below))
        | inr above ↦ omega (arith, ap ordering_index (sym ties ∙ halves.1 place key (omega (arith, above)) stands.0))
      ]
