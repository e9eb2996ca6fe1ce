-- The numbers that one number reaches, gathered one after another, with a mark for each.
use Rattle.std.specs.Prelude.{◌≡◌, ◌≢◌, ◌⊎◌, ◌↔◌, ◌++◌, ◌<◌, ℕ, List, Vec, AllPairs, Contains, length, slice_index_or}
use Rattle.cedar_ast.specs.Chain.{Chain}
use Rattle.cedar_graph.specs.Numbered.{IsTarget}
use Rattle.cedar_graph.specs.declared.closing.Mark.{Mark}
use Rattle.cedar_graph.specs.declared.closing.Mark.TheVariants.{Fresh, Done}

-- the mark of a number, `Fresh` where it has none
abbrev pub mark_of : List Mark → ℕ → Mark
mark_of marks number = slice_index_or marks number Fresh

-- each number is gathered once, and those that aren't gathered are fresh
pub record AreGathered (marks : List Mark) (found : List ℕ) : Type 0 where
  pub marked : (number : ℕ) → Contains found number ↔ (mark_of marks number ≢ Fresh)
  pub once : AllPairs (λ a b. a ≢ b) found

-- further numbers, those that pass, are gathered after those before, with a mark that no number
-- loses that is done
pub record GathersMore (mark : Mark) (Passes : ℕ → Type 0) (marks : List Mark) (found : List ℕ)
    (new_marks : List Mark) (new_found : List ℕ) : Type 0 where
  pub len : length new_marks ≡ length marks
  pub gathered : AreGathered new_marks new_found
  pub grown : (rest : List ℕ) × (new_found ≡ found ++ rest)
  pub has : (number : ℕ) → Passes number → Contains new_found number
  pub only : (number : ℕ) → Contains new_found number → Contains found number ⊎ Passes number
  pub stays : (number : ℕ) → mark_of marks number ≡ Done → mark_of new_marks number ≡ Done
  pub newly : (number : ℕ) → mark_of new_marks number ≡ Done
      → (mark_of marks number ≡ Done) ⊎ ((mark ≡ Done) × Passes number)

-- what is gathered is reached from the number, all its targets are among it, and so are those of
-- each number that is done
pub record AreReached {Z : Type 0} (targets : List (Vec ℕ Z)) (from : ℕ) (marks : List Mark)
    (found : List ℕ) : Type 0 where
  pub gathered : AreGathered marks found
  pub sound : (to : ℕ) → Contains found to → Chain (IsTarget targets) from to
  pub begun : (to : ℕ) → IsTarget targets from to → Contains found to
  pub done : (number to : ℕ) → mark_of marks number ≡ Done → IsTarget targets number to
      → Contains found to

-- the lists are what chains of targets reach from each of the first numbers
abbrev pub AreClosed : {Z Y : Type 0} → List (Vec ℕ Z) → List (Vec ℕ Y) → Type 0
AreClosed targets lists = (from to : ℕ) → (from < length lists)
    → IsTarget lists from to ↔ Chain (IsTarget targets) from to
