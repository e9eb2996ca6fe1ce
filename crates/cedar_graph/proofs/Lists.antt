-- Lemmas on lists, and on the items of a list of lists at a place.
use Rattle.std.proofs.Common.{◌≡◌, ◌≢◌, ℕ, zero, suc, ◌+◌, ◌<◌, ◌≤◌, List, [], ◌∷◌, ◌++◌, Vec, Contains, length, get_or, set, take, drop, slice_get, Some, refl, arith, ap, ◌∙◌, sym, subst, inl, inr}
use Rattle.std.proofs.Math.Seq.{take-append_seam}
use Rattle.std.proofs.lemmas.Bool.{cases_eq}
use Rattle.std.specs.Vec.{with_items}
use Rattle.cedar_graph.specs.Numbered.{items_at}

module _ {X Z : Type 0} where
  -- within the list, the items of what stands there
  pub items_at-read : (vs : List (Vec X Z)) (i : ℕ) (d : Vec X Z) → i < length vs → items_at vs i ≡ (get_or vs i d).items
  unfolding items_at
  items_at-read [] i d within = absurd (omega arith)
  items_at-read (v ∷ vs) zero d within = refl
  items_at-read (v ∷ vs) (suc i) d within = items_at-read vs i d (omega arith)

  -- past the end, none
  pub items_at-past : (vs : List (Vec X Z)) (i : ℕ) → length vs ≤ i → items_at vs i ≡ []
  unfolding items_at
  items_at-past [] i past = refl
  items_at-past (v ∷ vs) zero past = absurd (omega arith)
  items_at-past (v ∷ vs) (suc i) past = items_at-past vs i (omega arith)

  -- where a list was written
  pub items_at-set_same : (vs : List (Vec X Z)) (i : ℕ) (v : Vec X Z) → i < length vs → items_at (set vs i v) i ≡ v.items
  unfolding items_at
  items_at-set_same [] i v within = absurd (omega arith)
  items_at-set_same (w ∷ vs) zero v within = refl
  items_at-set_same (w ∷ vs) (suc i) v within = items_at-set_same vs i v (omega arith)

  -- at another place
  pub items_at-set_other : (vs : List (Vec X Z)) (i : ℕ) (v : Vec X Z) (k : ℕ) → k ≢ i → items_at (set vs i v) k
      ≡ items_at vs k
  unfolding items_at
  items_at-set_other [] i v k apart = refl
  items_at-set_other (w ∷ vs) zero v zero apart = absurd (apart refl)
  items_at-set_other (w ∷ vs) zero v (suc k) apart = refl
  items_at-set_other (w ∷ vs) (suc i) v zero apart = refl
  items_at-set_other (w ∷ vs) (suc i) v (suc k) apart = items_at-set_other vs i v k (λ same. apart (ap suc same))

  -- of one more list at the end
  pub items_at-push_same : (vs : List (Vec X Z)) (v : Vec X Z) → items_at (vs ++ v ∷ []) (length vs) ≡ v.items
  unfolding items_at
  items_at-push_same [] v = refl
  items_at-push_same (w ∷ vs) v = items_at-push_same vs v

  -- of the lists before it
  pub items_at-push_other : (vs : List (Vec X Z)) (v : Vec X Z) (k : ℕ) → k < length vs → items_at (vs ++ v ∷ []) k
      ≡ items_at vs k
  unfolding items_at
  items_at-push_other [] v k within = absurd (omega arith)
  items_at-push_other (w ∷ vs) v zero within = refl
  items_at-push_other (w ∷ vs) v (suc k) within = items_at-push_other vs v k (omega arith)

  -- what holds of the list that was written, and of each other list, holds of each
  pub each_after_set : (P : ℕ → List X → Type 0) (vs : List (Vec X Z)) (i : ℕ) (v : Vec X Z) → i < length vs → P i v.items
      → ((k : ℕ) → k ≢ i → P k (items_at vs k)) → (k : ℕ) → P k (items_at (set vs i v) k)
  each_after_set P vs i v within here others k =
      elim (cases_eq k i) [
        | inl same ↦ subst (λ m. P m (items_at (set vs i v) m)) (sym same)
            (subst (P i) (sym (items_at-set_same vs i v within)) here)
        | inr apart ↦ subst (P k) (sym (items_at-set_other vs i v k apart)) (others k apart)
      ]

  -- a list that is refilled with as many items has them
  pub items-refilled : (v : Vec X Z) (ws : List X) → length ws ≡ v.len → (with_items v ws).items ≡ ws
  items-refilled v ws same = ap (λ n. take n (ws ++ drop (length ws) v.items)) (sym same)
      ∙ take-append_seam ws (drop (length ws) v.items)

  -- what holds of the list that was pushed, and of each before it, holds of each
  pub each_after_push : (P : ℕ → List X → Type 0) (vs : List (Vec X Z)) (v : Vec X Z) → P (length vs) v.items
      → ((k : ℕ) → k < length vs → P k (items_at vs k)) → (k : ℕ) → k < length vs + 1 → P k (items_at (vs ++ v ∷ []) k)
  each_after_push P vs v here others k below =
      elim (cases_eq k (length vs)) [
        | inl same ↦ subst (λ m. P m (items_at (vs ++ v ∷ []) m)) (sym same)
            (subst (P (length vs)) (sym (items_at-push_same vs v)) here)
        | inr apart ↦ let before : k < length vs = omega arith in
            subst (P k) (sym (items_at-push_other vs v k before)) (others k before)
      ]

-- what is left of a list from a place on begins with what stands there
pub drop_next : {X : Type 0} (xs : List X) (i : ℕ) (x : X) (rest : List X) → drop i xs ≡ x ∷ rest
    → (i < length xs) × (slice_get xs i ≡ Some x) × (rest ≡ drop (i + 1) xs)
drop_next [] zero x rest left = absurd (cc)
drop_next [] (suc i) x rest left = absurd (cc)
drop_next (y ∷ ys) zero x rest left =
    let same : y ≡ x = cc in
    let others : rest ≡ ys = cc in
    (omega arith, ap Some same, others)
drop_next (y ∷ ys) (suc i) x rest left =
    let inner = drop_next ys i x rest left in
    let within = inner.0 in
    let onwards : suc (i + 1) ≡ suc i + 1 = omega arith in
    (omega (arith, within), inner.1, inner.2 ∙ ap (λ n. drop n (y ∷ ys)) onwards)

-- and if nothing is left, the place is past the end
pub drop_done : {X : Type 0} (xs : List X) (i : ℕ) → drop i xs ≡ [] → length xs ≤ i
drop_done [] i left = omega arith
drop_done (y ∷ ys) zero left = absurd (cc)
drop_done (y ∷ ys) (suc i) left = let inner = drop_done ys i left in omega (arith, inner)

-- what has no entries has none
pub empty_lacks : {A : Type 0} (P : A → Type 0) (entries : List A) → entries ≡ [] → (entry : A) → Contains entries entry → P entry
empty_lacks P entries empty entry among = absurd (omega (arith, ap length empty, among.1))
