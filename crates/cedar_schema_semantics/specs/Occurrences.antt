use Rattle.std.specs.Prelude.{◌≡◌, ◌⊎◌, List, [], ◌∷◌}

-- the item is the first of the list of which a fact holds
abbrev pub IsFirst : {A : Type 0} → (A → Type 0) → List A → A → Type 0
IsFirst P [] item = ⊥
IsFirst P (first ∷ rest) item = ((first ≡ item) × P first) ⊎ ((¬ P first) × IsFirst P rest item)
