-- How much is left to be done.
use Rattle.std.proofs.Common.{◌≡◌, ◌+◌, ◌<◌, ◌≤◌, ℕ, zero, suc, List, [], ◌∷◌, Vec, length, set, arith, ap, refl}
use Rattle.cedar_cycles.specs.Search.{cost, fresh_cost, mark_of}
use Rattle.cedar_cycles.specs.declared.search.Mark.{Mark}
use Rattle.cedar_cycles.specs.declared.search.Mark.TheVariants.{Fresh, OnCycle, Open, Passed}
use Rattle.cedar_graph.specs.Words.{items_at}

module _ {Z : Type 0} where
  -- to enter a fresh number pays for its targets and for its group
  pub entering_pays : (marks : List Mark) (targets : List (Vec ℕ Z)) (number place : ℕ) → number < length targets → number < length marks
      → mark_of marks number ≡ Fresh
      → fresh_cost marks targets ≡ fresh_cost (set marks number (Open place)) targets + (length (items_at targets number) + 1)
  unfolding items_at
  entering_pays [] targets number place within within' fresh = absurd (omega (arith, within'))
  entering_pays (mark ∷ marks) [] number place within within' fresh = absurd (omega (arith, within))
  entering_pays (mark ∷ marks) (numbers ∷ targets) zero place within within' fresh =
      let is : mark ≡ Fresh = fresh in
      let paid : cost mark (length numbers.items) ≡ length numbers.items + 1 = ap (λ each. cost each (length numbers.items)) is in
      omega (arith, paid)
  entering_pays (mark ∷ marks) (numbers ∷ targets) (suc number) place within within' fresh =
      omega (arith, entering_pays marks targets number place (omega (arith, within)) (omega (arith, within')) fresh)

  -- what is fresh costs no more where no more is fresh
  pub costs_no_more : (marks after : List Mark) (targets : List (Vec ℕ Z)) → length after ≡ length marks
      → ((number : ℕ) → mark_of after number ≡ Fresh → mark_of marks number ≡ Fresh) → fresh_cost after targets ≤ fresh_cost marks targets
  costs_no_more [] [] targets same fresh = omega arith
  costs_no_more [] (mark ∷ after) targets same fresh = absurd (omega (arith, same))
  costs_no_more (mark ∷ marks) [] targets same fresh = absurd (omega (arith, same))
  costs_no_more (mark ∷ marks) (other ∷ after) [] same fresh = omega arith
  costs_no_more (mark ∷ marks) (other ∷ after) (numbers ∷ targets) same fresh =
      let rest = costs_no_more marks after targets (omega (arith, same)) (λ number. fresh (suc number)) in
      let here = one_no_more mark other (length numbers.items) (fresh zero) in
      omega (arith, rest, here)
    where
      one_no_more : (mark other : Mark) (count : ℕ) → (other ≡ Fresh → mark ≡ Fresh) → cost other count ≤ cost mark count
      one_no_more mark Passed count fresh = omega arith
      one_no_more mark OnCycle count fresh = omega arith
      one_no_more mark (Open place) count fresh = omega arith
      one_no_more Fresh Fresh count fresh = omega arith
      one_no_more Passed Fresh count fresh = let wrong : Passed ≡ Fresh = fresh refl in absurd cc
      one_no_more OnCycle Fresh count fresh = let wrong : OnCycle ≡ Fresh = fresh refl in absurd cc
      one_no_more (Open place) Fresh count fresh = let wrong : Open place ≡ Fresh = fresh refl in absurd cc
