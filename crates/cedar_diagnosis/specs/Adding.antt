-- Facts that are gathered one after another.
use Rattle.std.specs.Prelude.{◌≡◌, ◌⊎◌, ◌↔◌, ◌++◌, List, [], ◌∷◌, Contains, Option, None, Some}
use Rattle.cedar_ast.specs.Words.{Twice}

-- after, the list has what it had before, and what the fact holds of, and nothing else
abbrev pub Adds : {P : Type 0} → (P → Type 0) → List P → List P → Type 0
Adds {P = P} Holds before after = (item : P)
    → Contains after item ↔ (Contains before item ⊎ Holds item)

-- one of some items gives it
abbrev pub SomeGives : {X P : Type 0} → (X → P → Type 0) → List X → P → Type 0
SomeGives {X = X} Gives items given = (item : X) × Contains items item × Gives item given

-- what may be there, as a list of one or none
abbrev pub optional : {X P : Type 0} → (X → P) → Option X → List P
optional f None = []
optional f (Some x) = f x ∷ []

-- after what was told before, just what the fact holds of is told, each once
pub record TellsJust {P : Type 0} (Holds : P → Type 0) (before after : List P) : Type 0 where
  pub more : List P
  pub told : after ≡ before ++ more
  pub just : Adds Holds [] more
  pub once : (item : P) → ¬ Twice more item
