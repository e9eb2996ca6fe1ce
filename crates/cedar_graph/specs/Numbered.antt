-- Edges between numbers: each number has a list of its targets.
use Rattle.std.specs.Prelude.{ℕ, zero, suc, List, [], ◌∷◌, Vec, Contains}

-- the items of the list at a place, or none past the end
unfoldable pub items_at : {X Z : Type 0} → List (Vec X Z) → ℕ → List X
items_at [] i = []
items_at (v ∷ vs) zero = v.items
items_at (v ∷ vs) (suc i) = items_at vs i

-- the second number is among the targets of the first
abbrev pub IsTarget : {Z : Type 0} → List (Vec ℕ Z) → ℕ → ℕ → Type 0
IsTarget targets from to = Contains (items_at targets from) to
