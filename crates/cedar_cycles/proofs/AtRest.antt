-- A search that has come to its end.
use Rattle.std.proofs.Common.{◌≡◌, ◌⊎◌, ◌↔◌, ◌<◌, ℕ, zero, suc, Bool, true, false, List, [], ◌∷◌, Vec, Result, Ok, Err, IfOk, length, map, get_or, replicate, arith, ap, inl, inr, refl, ◌∙◌}
use Rattle.cedar_ast.specs.Chain.{Chain}
use Rattle.cedar_cycles.specs.Search.{IsMet, IsUnderWay, is_on_cycle, mark_of}
use Rattle.cedar_cycles.specs.declared.search.Group.{Group}
use Rattle.cedar_cycles.specs.declared.search.Mark.{Mark}
use Rattle.cedar_cycles.specs.declared.search.Mark.TheVariants.{Fresh, OnCycle, Open, Passed}
use Rattle.cedar_graph.specs.Numbered.{IsTarget}

-- where all is fresh, each number is
pub all_fresh : (count number : ℕ) → mark_of (replicate count Fresh) number ≡ Fresh
all_fresh zero number = refl
all_fresh (suc count) zero = refl
all_fresh (suc count) (suc number) = all_fresh count number

-- the flag of a number says what its mark does
flag_of : (marks : List Mark) (number : ℕ) → get_or (map is_on_cycle marks) number false ≡ is_on_cycle (mark_of marks number)
flag_of [] number = refl
flag_of (mark ∷ marks) zero = refl
flag_of (mark ∷ marks) (suc number) = flag_of marks number

-- a mark is one of these
mark_cases : (mark : Mark) → (mark ≡ Fresh) ⊎ (((place : ℕ) × (mark ≡ Open place)) ⊎ ((mark ≡ Passed) ⊎ (mark ≡ OnCycle)))
mark_cases Fresh = inl refl
mark_cases (Open place) = inr (inl (place, refl))
mark_cases Passed = inr (inr (inl refl))
mark_cases OnCycle = inr (inr (inr refl))

-- where all numbers are met and none is on the path, the flags are right
pub flags_right : {Z F E : Type 0} (result : Result (Vec Bool F) E) (targets : List (Vec ℕ Z)) (marks : List Mark) (path pending : List ℕ)
    (groups : List Group) (count : ℕ)
    → IfOk result (λ flags. flags.items ≡ map is_on_cycle marks) → IsUnderWay targets [] marks path pending groups → length path ≡ 0
    → ((number : ℕ) → number < count → IsMet marks number)
    → IfOk result (λ flags. (number : ℕ) → number < count
    → (get_or flags.items number false ≡ true) ↔ Chain (IsTarget targets) number number)
flags_right (Err e) targets marks path pending groups count are s rest met = tt
flags_right (Ok flags) targets marks path pending groups count are s rest met = λ number within.
    let read : get_or flags.items number false ≡ is_on_cycle (mark_of marks number) = ap (λ each. get_or each number false) are ∙ flag_of marks number in
    elim (mark_cases (mark_of marks number)) [
      | inl fresh ↦ absurd (met number within fresh)
      | inr (inl opens) ↦ let stands = s.on_path number opens.0 opens.1 in absurd (omega (arith, stands.0, rest))
      | inr (inr (inl passed)) ↦
          let not : get_or flags.items number false ≡ false = read ∙ ap is_on_cycle passed in
          (λ (is : get_or flags.items number false ≡ true). cc, λ chain. absurd (s.complete number passed chain))
      | inr (inr (inr on_cycle)) ↦ (λ is. s.sound number on_cycle, λ chain. read ∙ ap is_on_cycle on_cycle)
    ]
