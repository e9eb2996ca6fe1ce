-- Keys known by numbers: the number of a key is its place in a list of names.
use Rattle.std.specs.HashMap.{HashMap, get}
use Rattle.std.specs.Prelude.{◌≡◌, ◌↔◌, ℕ, Bool, IsTrue, List, Some, IsSomeAnd, slice_get, Contains, Vec}
use Rattle.cedar_graph.specs.Numbered.{IsTarget, items_at}

module _ {K : Type 0} (eq : K → K → Bool) where
  -- a name that is equal to the key stands at the number
  abbrev pub IsNumbered : List K → K → ℕ → Type 0
  IsNumbered names key number = IsSomeAnd (slice_get names number) (λ name. IsTrue (eq key name))

module _ {K : Type 0} (eq : K → K → Bool) where
  -- the map finds, at each key, the number at which a name that is equal to it stands, and nothing
  -- else
  abbrev pub AreNumbers : {S : Type 0} → List K → HashMap K ℕ S → Type 0
  AreNumbers names numbers = (key : K) (number : ℕ)
      → (get eq numbers key ≡ Some number) ↔ IsNumbered eq names key number

  -- each key that has a number keeps it
  abbrev pub KeepsNumbers : List K → List K → Type 0
  KeepsNumbers old new = (key : K) (number : ℕ) → IsNumbered eq old key number
      → IsNumbered eq new key number

module _ {K : Type 0} (eq : K → K → Bool) where
  -- the numbers are those of the keys that pass the test
  pub record AreNumbersOf (names : List K) (test : K → Bool) (numbers : List ℕ) : Type 0 where
    pub sound : (number : ℕ) → Contains numbers number
        → (key : K) × IsNumbered eq names key number × IsTrue (test key)
    pub complete : (key : K) → IsTrue (test key)
        → (number : ℕ) × IsNumbered eq names key number × Contains numbers number

module _ {K : Type 0} (eq : K → K → Bool) where
  -- the number of the key stands in the list
  abbrev pub StandsIn : List K → List ℕ → K → Type 0
  StandsIn names numbers key = (number : ℕ) × Contains numbers number
      × IsNumbered eq names key number

module _ {K : Type 0} (eq : K → K → Bool) where
  -- the number of the second key stands in the list of the first
  abbrev pub ListHas : {Z : Type 0} → List K → List (Vec ℕ Z) → K → K → Type 0
  ListHas names lists from to = (number : ℕ) × IsNumbered eq names from number
      × StandsIn eq names (items_at lists number) to

module _ {K : Type 0} (eq : K → K → Bool) where
  -- the targets of a number are the numbers of the keys to which edges go from the key that has it
  pub record AreTargetsOf {Z : Type 0} (names : List K) (edges : List (K × K))
      (targets : List (Vec ℕ Z)) : Type 0 where
    pub sound : (i j : ℕ) → IsTarget targets i j → (edge : K × K) × Contains edges edge
        × IsNumbered eq names edge.0 i × IsNumbered eq names edge.1 j
    pub complete : (edge : K × K) → Contains edges edge → (i j : ℕ)
        × IsNumbered eq names edge.0 i × IsNumbered eq names edge.1 j × IsTarget targets i j
