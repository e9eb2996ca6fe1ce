use Rattle.std.specs.List.{HoldsAt}
use Rattle.std.specs.Prelude.{◌≡◌, ◌<◌, ℕ, List, length}
use Rattle.std.specs.declared.cmp.Ordering.{Ordering}
use Rattle.std.specs.declared.cmp.Ordering.TheVariants.{Equal}

-- the key at a place ties with a key
abbrev pub KeyStandsAt : {K : Type 0} → (K → K → Ordering) → List K → K → ℕ → Type 0
KeyStandsAt cmp keys key place =
    (place < length keys) × HoldsAt (λ other. cmp key other ≡ Equal) keys place

-- the entry at a place has the key
abbrev pub StandsAt : {K V : Type 0} → (K → K → Ordering) → List (K × V) → K → ℕ → Type 0
StandsAt cmp entries key place =
    (place < length entries) × HoldsAt (λ entry. cmp key entry.0 ≡ Equal) entries place
