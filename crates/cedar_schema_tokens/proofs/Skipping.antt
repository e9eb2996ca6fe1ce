-- Skipping at the front of some bytes, a turn at a time, whatever is skipped in a turn.
use Rattle.std.specs.Prelude.{◌⊎◌}
use Rattle.std.proofs.Common.{◌≡◌, ℕ, zero, suc, ◌-◌, ◌≤◌, ◌==◌, true, false, List, [], ◌∷◌, length, drop, inl, inr, refl, sym, ap, ◌∙◌, arith, length-drop, eqb-true}
use Rattle.std.proofs.lemmas.Bool.{cases_Bool}
use Rattle.std.proofs.lemmas.Bool.Decides.{nat_tests}

pub zero_or : (k : ℕ) → (k ≡ 0) ⊎ (k ≡ 0 → ⊥)
zero_or zero = inl refl
zero_or (suc k) = inr (λ e. omega (arith, e))

-- how many bytes a turn skips, of none none; and what is left after at most so many turns
module _ (len : List ℕ → ℕ) (from : ℕ → List ℕ → List ℕ) (nothing : len [] ≡ 0)
    (none_left : (all : List ℕ) → from 0 all ≡ all)
    (stops : (n : ℕ) (all : List ℕ) → len all ≡ 0 → from (suc n) all ≡ all)
    (goes : (n k : ℕ) (all : List ℕ) → len all ≡ k → (k ≡ 0 → ⊥) → from (suc n) all ≡ from n (drop k all))
  where
    -- nothing is skipped where a turn skips nothing
    pub stay : (n : ℕ) (all : List ℕ) → len all ≡ 0 → from n all ≡ all
    stay zero all none = none_left all
    stay (suc n) all none = stops n all none

    stay_empty : (n : ℕ) (all : List ℕ) → length all ≤ 0 → from n all ≡ all
    stay_empty n [] none = stay n [] nothing
    stay_empty n (x ∷ xs) none = absurd (omega arith)

    -- the count of the bytes is enough
    enough : (n m : ℕ) (all : List ℕ) → length all ≤ n → length all ≤ m → from n all ≡ from m all
    enough zero m all short other = stay_empty zero all short ∙ sym (stay_empty m all short)
    enough (suc n) zero all short other = stay_empty (suc n) all other ∙ sym (stay_empty zero all other)
    enough (suc n) (suc m) all short other = elim (zero_or (len all)) [
      | inl none ↦ stops n all none ∙ sym (stops m all none)
      | inr some ↦
          let k = len all in
          goes n k all refl some
          ∙ enough n m (drop k all) (omega (arith, length-drop k all, some)) (omega (arith, length-drop k all, some))
          ∙ sym (goes m k all refl some)
    ]

    -- what a turn skips may be skipped before
    pub on : (k : ℕ) (all : List ℕ) → len all ≡ k → (k ≡ 0 → ⊥) → from (length all) all ≡ from (length (drop k all)) (drop k all)
    on k [] is some = absurd (some (sym is ∙ nothing))
    on k (x ∷ xs) is some =
        goes (length xs) k (x ∷ xs) is some
        ∙ enough (length xs) (length (drop k (x ∷ xs))) (drop k (x ∷ xs)) (omega (arith, length-drop k (x ∷ xs), some)) (omega arith)

    -- nothing more is left to skip
    pub ends : (n : ℕ) (all : List ℕ) → length all ≤ n → len (from n all) ≡ 0
    ends zero [] short = ap len (none_left []) ∙ nothing
    ends zero (x ∷ xs) short = absurd (omega arith)
    ends (suc n) all short = elim (zero_or (len all)) [
      | inl none ↦ ap len (stops n all none) ∙ none
      | inr some ↦
          let k = len all in
          ap len (goes n k all refl some) ∙ ends n (drop k all) (omega (arith, length-drop k all, some))
    ]

    -- what is left is no longer
    pub shorter : (n : ℕ) (all : List ℕ) → length (from n all) ≤ length all
    shorter zero all = omega (arith, ap length (none_left all))
    shorter (suc n) all = elim (zero_or (len all)) [
      | inl none ↦ omega (arith, ap length (stops n all none))
      | inr some ↦
          let k = len all in
          omega (arith, ap length (goes n k all refl some), shorter n (drop k all), length-drop k all)
    ]
