-- An order of numbers in which each comes after those that it leads to, and one that passes over
-- cycles.
use Rattle.std.specs.Prelude.{◌≡◌, ◌≢◌, ◌⊎◌, ◌↔◌, ◌++◌, ◌∷◌, ◌<◌, ℕ, List, Option, None, Some, AllPairs, Contains, IfSome, Vec, length}
use Rattle.cedar_ast.specs.Chain.{Chain}
use Rattle.cedar_graph.specs.Numbered.{IsTarget}
use Rattle.cedar_graph.specs.declared.ordering.Ordered.{Ordered}
use Rattle.cedar_graph.specs.declared.ordering.Ordered.TheVariants.{Order, Cycle}
use Rattle.cedar_graph.specs.declared.ordering.Walk.{Walk}

-- the one number leads to the other, which has a list of its own
abbrev pub LeadsTo : {Z : Type 0} → List (Vec ℕ Z) → ℕ → ℕ → Type 0
LeadsTo targets from to = IsTarget targets from to × (to < length targets)

-- the list holds just the numbers that have a list, each once and after those that it leads to
pub record IsOrder {Z : Type 0} (targets : List (Vec ℕ Z)) (order : List ℕ) : Type 0 where
  pub each : (number : ℕ) → Contains order number ↔ (number < length targets)
  pub once : AllPairs (λ a b. a ≢ b) order
  pub after : (before rest : List ℕ) (number to : ℕ) → order ≡ before ++ number ∷ rest
      → LeadsTo targets number to
      → Contains before to

-- the answer is an order, and no number is on a cycle; or it names one that does
abbrev pub IsOrdered : {Z : Type 0} → List (Vec ℕ Z) → Ordered → Type 0
IsOrdered targets (Order order) =
    IsOrder targets order.items × ((number : ℕ) → ¬ Chain (LeadsTo targets) number number)
IsOrdered targets (Cycle number) = Chain (LeadsTo targets) number number

-- the order holds just the numbers that have a list, each once and after those that it leads to,
-- but for those that lead back to themselves
pub record IsLowestFirst {Z : Type 0} (targets : List (Vec ℕ Z)) (order : List ℕ) : Type 0 where
  pub each : (number : ℕ) → Contains order number ↔ (number < length targets)
  pub once : AllPairs (λ a b. a ≢ b) order
  pub after : (before rest : List ℕ) (number to : ℕ) → order ≡ before ++ number ∷ rest
      → LeadsTo targets number to → Contains before to ⊎ Chain (LeadsTo targets) to to

-- the number stands before; or it leads back to itself, where some number on a cycle is known
abbrev pub IsPast : {Z : Type 0} → List (Vec ℕ Z) → Option ℕ → List ℕ → ℕ → Type 0
IsPast targets None before number = Contains before number
IsPast targets (Some on_cycle) before number =
    Contains before number ⊎ Chain (LeadsTo targets) number number

-- the numbers that have a list are in order, but for those on cycles, and the one that is named is
-- on a cycle; where none is named, each number comes after all that it leads to
pub record IsWalked {Z : Type 0} (targets : List (Vec ℕ Z)) (walk : Walk) : Type 0 where
  pub each : (number : ℕ) → Contains walk.order.items number ↔ (number < length targets)
  pub once : AllPairs (λ a b. a ≢ b) walk.order.items
  pub after : (before rest : List ℕ) (number to : ℕ) → walk.order.items ≡ before ++ number ∷ rest
      → LeadsTo targets number to → IsPast targets walk.on_cycle before to
  pub named : IfSome walk.on_cycle (λ number. Chain (LeadsTo targets) number number)
