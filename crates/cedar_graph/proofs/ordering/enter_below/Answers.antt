use Rattle.std.proofs.Common.{◌≡◌, ◌⊎◌, ◌<◌, ◌+◌, ℕ, zero, suc, List, [], ◌∷◌, ◌++◌, ap, sym, subst, refl, inl, inr, arith, Contains}
use Rattle.std.proofs.lemmas.List.Elements.{Contains-append_left, Contains-append_right, Contains-append_cases}
use Rattle.cedar_ast.proofs.Basics.{Contains-single}
use Rattle.cedar_graph.proofs.OrderSteps.{enter_or_leave}
use Rattle.cedar_graph.proofs.ordering.enter_below.Goals as goal
use Rattle.cedar_graph.specs.Words.{Enter, Leave, Step}

-- what is below the next number is below this one or is it
below_or_this : (k n : ℕ) → k < n + 1 → (k < n) ⊎ (n ≡ k)
below_or_this zero zero within = inr refl
below_or_this zero (suc n) within = inl (omega arith)
below_or_this (suc k) zero within = absurd (omega (arith, within))
below_or_this (suc k) (suc n) within =
    elim (below_or_this k n (omega (arith, within))) [ inl less ↦ inl (omega (arith, less)) | inr same ↦ inr (ap suc same) ]

pub loop-number-preserved : goal.loop-number-preserved
loop-number-preserved c =
    let P : List Step → Type 0 = λ steps. (number : ℕ) → number < c.loop-number.number + 1 → Contains steps (Enter number) in
    let Q : List Step → Type 0 = λ steps. (number : ℕ) → ¬ Contains steps (Leave number) in
    let before = c.loop-number.steps.items in
    let new = Enter c.loop-number.number in
    record {
      each = subst P (sym c.in_ok-push.ensures.items) (λ number within.
          elim (below_or_this number c.loop-number.number within) [
            | inl less ↦ Contains-append_left before (new ∷ []) (Enter number) (c.loop-number.invariant.each number less)
            | inr same ↦ let R : ℕ → Type 0 = λ each. Contains (before ++ new ∷ []) (Enter each) in
                subst R same (Contains-append_right before (new ∷ []) new (0, omega arith, refl))
          ]);
      only = subst Q (sym c.in_ok-push.ensures.items) (λ number leaves.
          elim (Contains-append_cases before (new ∷ []) (Leave number) leaves) [ inl there ↦ c.loop-number.invariant.only number there | inr last ↦ enter_or_leave c.loop-number.number number (Contains-single new (Leave number) last) ]);
    }
