-- Links between names, each told as the fault that it would be on a cycle, and their numbers.
use Rattle.std.specs.Prelude.{◌≡◌, ◌⊎◌, ℕ, Bool, true, false, List, Vec, Contains, Some, length, slice_get, slice_index_or}
use Rattle.cedar_diagnosis.specs.Adding.{SomeGives}
use Rattle.cedar_diagnosis.specs.declared.cycles.Link.{Link}
use Rattle.cedar_graph.specs.Words.{IsTarget}
use Rattle.cedar_schema_ast.specs.Words.{Declaration}
use Rattle.cedar_schema_semantics.specs.Words.{Bag, Fault}

-- the link, by the faults that its names would be
abbrev pub link_told : {K : Type 0} → (K → Fault) → Link K → Fault × Fault
link_told fault link = (fault link.from, fault link.to)

-- one of the links leads from the one to the other
abbrev pub IsLinked : List (Fault × Fault) → Fault → Fault → Type 0
IsLinked links from to = Contains links (from, to)

-- some declaration of the bag links the one to the other
abbrev pub LinksIn : (Declaration → Fault × Fault → Type 0) → Bag → Fault → Fault → Type 0
LinksIn Links bag from to = SomeGives Links bag (from, to)

-- what stands at the number
abbrev pub IsAt : List Fault → ℕ → Fault → Type 0
IsAt names number name = slice_get names number ≡ Some name

-- where both of its names have numbers, the link is added to the targets of numbers
pub record AddsTarget {Z Y : Type 0} (names : List Fault) (link : Fault × Fault)
    (before : List (Vec ℕ Z)) (after : List (Vec ℕ Y)) : Type 0 where
  pub len : length after ≡ length before
  pub kept : (i j : ℕ) → IsTarget before i j → IsTarget after i j
  pub added : (i j : ℕ) → IsAt names i link.0 → IsAt names j link.1 → IsTarget after i j
  pub only : (i j : ℕ) → IsTarget after i j
      → IsTarget before i j ⊎ (IsAt names i link.0 × IsAt names j link.1)

-- the targets of numbers are those of their names
pub record AreLinkTargets {Z : Type 0} (names : List Fault) (links : List (Fault × Fault))
    (targets : List (Vec ℕ Z)) : Type 0 where
  pub sound : (i j : ℕ) → IsTarget targets i j → (link : Fault × Fault) × Contains links link
      × IsAt names i link.0 × IsAt names j link.1
  pub complete : (link : Fault × Fault) → Contains links link → (i j : ℕ)
      → IsAt names i link.0 → IsAt names j link.1 → IsTarget targets i j

-- the name that the link leads from has its flag set
abbrev pub IsFlagged : List Fault → List Bool → Fault × Fault → Fault → Type 0
IsFlagged names flags link fault = (link.0 ≡ fault) × (number : ℕ) × IsAt names number fault
    × (slice_index_or flags number false ≡ true)
