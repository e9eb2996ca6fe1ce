use Rattle.std.specs.Prelude.{◌≡◌, ◌↔◌, ◌⊎◌, List, [], ◌∷◌, Contains, Option, Some, None}

-- each member of the one list is a member of the other
abbrev pub Included : {A : Type 0} → List A → List A → Type 0
Included {A = A} lower upper = (x : A) → Contains lower x → Contains upper x

-- the same items stand in both lists, whatever their order and repeats
abbrev pub SameItems : {A : Type 0} → List A → List A → Type 0
SameItems {A = A} items others = (item : A) → Contains items item ↔ Contains others item

-- the lists are of one length, and a relation holds between their items pairwise
abbrev pub HoldsPairwise : {A B : Type 0} → (A → B → Type 0) → List A → List B → Type 0
HoldsPairwise R [] [] = Unit {0}
HoldsPairwise R (first ∷ rest) (other ∷ others) = R first other × HoldsPairwise R rest others
HoldsPairwise R _ _ = ⊥

-- the item stands at two places of the list
abbrev pub Twice : {A : Type 0} → List A → A → Type 0
Twice [] item = ⊥
Twice (first ∷ rest) item = ((first ≡ item) × Contains rest item) ⊎ Twice rest item

-- a relation holds between two things that are both there, or neither is
abbrev pub HoldsOfBoth : {A B : Type 0} → (A → B → Type 0) → Option A → Option B → Type 0
HoldsOfBoth R None None = Unit {0}
HoldsOfBoth R (Some it) (Some other) = R it other
HoldsOfBoth R _ _ = ⊥
