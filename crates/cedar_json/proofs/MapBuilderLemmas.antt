-- Pairs that wait before they are put into a map.
use Rattle.std.proofs.Common.{◌≡◌, ◌≤◌, ℕ, suc, ◌-◌, ◌++◌, List, [], ◌∷◌, length, get_or, Bool, true, false, ltb, ltb-true, ltb-false, All, subst, refl, ap, sym, ◌∙◌, arith}
use Rattle.std.proofs.lemmas.List.{get_or_default}
use Rattle.std.proofs.lemmas.List.Quantifiers.{all_pairs_push}
use Rattle.std.specs.BTreeMap.{insert_entry}
use Rattle.std.specs.Cmp.{IsTotalOrder}
use Rattle.std.specs.Ordering.{ordering_reverse}
use Rattle.std.specs.declared.cmp.Ordering.{Ordering}
use Rattle.std.specs.declared.cmp.Ordering.TheVariants.{Less, Equal, Greater}
use Rattle.cedar_json.specs.Words.{IsAscending, all_put}

module _ {K : Type 0} (R : K → K → Ordering) (total : IsTotalOrder R) where
  -- what is greater than a key
  above : (a b : K) → R a b ≡ Less → R b a ≡ Greater
  above a b less = total.antisymm b a ∙ ap ordering_reverse less

  -- what is less than a key is less than one that is equal to it
  below_tied : (a b c : K) → R a b ≡ Less → R b c ≡ Equal → R a c ≡ Less
  below_tied a b c less ties =
      total.antisymm a c ∙ ap ordering_reverse (sym (total.congr b c a ties) ∙ above a b less)

module _ {K V : Type 0} (R : K → K → Ordering) where
  -- a pair behind others is put after them
  pub all_put_push : (entries pairs : List (K × V)) (key : K) (value : V)
      → all_put R entries (pairs ++ (key, value) ∷ []) ≡ insert_entry R (all_put R entries pairs) key value
  all_put_push entries [] key value = refl
  all_put_push entries (pair ∷ pairs) key value = all_put_push (insert_entry R entries pair.0 pair.1) pairs key value

  -- where the first pair is put, all put together stay the same
  pub all_put_first : (entries first : List (K × V)) (pairs rest : List (K × V)) (pair : K × V)
      → first ≡ insert_entry R entries pair.0 pair.1 → pairs ≡ pair ∷ rest → all_put R first rest ≡ all_put R entries pairs
  all_put_first entries first pairs rest pair put is = rw (put, is) refl

  -- where no pair waits, the entries are all there are
  pub all_put_none : (entries pairs : List (K × V)) → length pairs ≤ 0 → all_put R entries pairs ≡ entries
  all_put_none entries [] none = refl
  all_put_none entries (pair ∷ pairs) none = absurd (omega (arith, none))

  -- keys behind the first one ascend too
  pub ascending_tail : (pair : K × V) (pairs : List (K × V)) → IsAscending R (pair ∷ pairs) → IsAscending R pairs
  ascending_tail pair pairs all i j d less within = all (suc i) (suc j) d (omega arith) (omega arith)

  -- so do those that are left where the first pair leaves
  pub ascending_rest : (pairs rest : List (K × V)) (pair : K × V) → pairs ≡ pair ∷ rest → IsAscending R pairs → IsAscending R rest
  ascending_rest pairs rest pair is all = ascending_tail pair rest (subst (λ these. IsAscending R these) is all)

  -- a key that is greater than all extends them
  pub ascending_push : (pairs : List (K × V)) (key : K) (value : V) → IsAscending R pairs → All (λ (pair : K × V). R pair.0 key ≡ Less) pairs
      → IsAscending R (pairs ++ (key, value) ∷ [])
  ascending_push pairs key value ascending behind =
      all_pairs_push (λ (one other : K × V). R one.0 other.0 ≡ Less) pairs (key, value) ascending behind

  module _ (total : IsTotalOrder R) where
    -- two pairs with keys that differ are put in either order
    pub insert-commutes : (entries : List (K × V)) (a b : K) (x y : V) → R a b ≡ Less
        → insert_entry R (insert_entry R entries b y) a x ≡ insert_entry R (insert_entry R entries a x) b y
    insert-commutes [] a b x y less = rw (less, above R total a b less) refl
    insert-commutes (e ∷ es) a b x y less = by (insert-commutes es a b x y less) (R a e.0) (R b e.0) refl refl
      where
        by : insert_entry R (insert_entry R es b y) a x ≡ insert_entry R (insert_entry R es a x) b y
            → (o p : Ordering) → R a e.0 ≡ o → R b e.0 ≡ p
            → insert_entry R (insert_entry R (e ∷ es) b y) a x ≡ insert_entry R (insert_entry R (e ∷ es) a x) b y
        by others Less Less f s = rw (s, f, less, above R total a b less, s) refl
        by others Less Equal f s = rw (s, f, above R total a b less, s) refl
        by others Less Greater f s = rw (s, f, above R total a b less, s) refl
        by others Equal Greater f s = rw (s, f, s) refl
        by others Greater Greater f s = rw (s, f, s) (ap (λ rest. e ∷ rest) others)
        by others Equal Less f s = absurd (let t = total.trans a b e.0 less s in cc)
        by others Equal Equal f s = absurd (let t = below_tied R total a b e.0 less s in cc)
        by others Greater Less f s = absurd (let t = total.trans a b e.0 less s in cc)
        by others Greater Equal f s = absurd (let t = below_tied R total a b e.0 less s in cc)

    -- a pair whose key is greater than those of others is put before or after them
    pub all_put_past : (entries pairs : List (K × V)) (key : K) (value : V) → All (λ (pair : K × V). R pair.0 key ≡ Less) pairs
        → all_put R (insert_entry R entries key value) pairs ≡ insert_entry R (all_put R entries pairs) key value
    all_put_past entries [] key value behind = refl
    all_put_past entries (pair ∷ pairs) key value behind =
        ap (λ others. all_put R others pairs) (insert-commutes entries pair.0 key pair.1 value (behind 0 pair (omega arith)))
        ∙ all_put_past (insert_entry R entries pair.0 pair.1) pairs key value (λ i d within. behind (suc i) d (omega arith))

    -- a key that is greater than the last is greater than all
    pub behind_last : (pairs : List (K × V)) (n : ℕ) (key : K) (last : K × V) → n ≡ length pairs → IsAscending R pairs
        → last ≡ get_or pairs (n - 1) last → R last.0 key ≡ Less → All (λ (pair : K × V). R pair.0 key ≡ Less) pairs
    behind_last pairs n key last all ascending is less i d within = by (ltb i (n - 1)) refl
      where
        same : get_or pairs (n - 1) d ≡ last
        same = get_or_default pairs (n - 1) d last (omega (arith, all, within)) ∙ sym is

        by : (b : Bool) → ltb i (n - 1) ≡ b → R (get_or pairs i d).0 key ≡ Less
        by true before =
            let lower = ascending i (n - 1) d (ltb-true i (n - 1) before) (omega (arith, all, within)) in
            total.trans (get_or pairs i d).0 last.0 key (subst (λ (pair : K × V). R (get_or pairs i d).0 pair.0 ≡ Less) same lower) less
        by false other =
            let here : n - 1 ≡ i = omega (arith, ltb-false i (n - 1) other, all, within) in
            subst (λ k. R (get_or pairs k d).0 key ≡ Less) here (subst (λ (pair : K × V). R pair.0 key ≡ Less) (sym same) less)

-- what a pair behind others does to those that wait
pub ruleset pushed = (all_put_push, ascending_push)
