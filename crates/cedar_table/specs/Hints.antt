-- Rows of hints: where in a list of entries a key may stand, by the hash of the key.
use Rattle.std.specs.Hash.{HashWrites}
use Rattle.std.specs.Hash.FoldHasher as folding
use Rattle.std.specs.List.{fold}
use Rattle.std.specs.Prelude.{◌≡◌, ◌≢◌, ◌+◌, ◌-◌, ◌/◌, ◌%◌, ◌^◌, ◌<◌, ℕ, IfSome, IsSomeAnd, IsTrue, List, bit_and, length, slice_get}
use Rattle.std.specs.declared.hash.FoldHasher.{FoldHasher}
use Rattle.cedar_table.specs.declared.hints.Hint.{Hint}
use Rattle.cedar_table.specs.declared.hints.Hints.{Hints}

-- the hash of what a key is made of, as a hasher goes on with it
abbrev pub hash_by : FoldHasher → HashWrites → ℕ
hash_by begun writes = folding.finish (fold folding.write begun writes)

-- the part of a hash that a hint keeps
abbrev pub tag_of : ℕ → ℕ
tag_of hash = hash / 2 ^ 32

-- the row that is looked at for a hash in a step, of so many rows
abbrev pub row_of : ℕ → ℕ → ℕ → ℕ
row_of rows hash step = bit_and ((hash + step) % 2 ^ 64) (rows - 1)

-- the row of a step is there, and passes
abbrev pub RowIs : List Hint → ℕ → ℕ → (Hint → Type 0) → Type 0
RowIs rows hash step Passes = IsSomeAnd (slice_get rows (row_of (length rows) hash step)) Passes

-- the row has a hint of another tag: the search goes on after it, as it doesn't after a free row
abbrev pub IsPassed : ℕ → Hint → Type 0
IsPassed hash hint = (hint.tag ≢ tag_of hash) × (hint.place ≢ 2 ^ 32 - 1)

-- the first of the rows of a hash that isn't passed has its tag, and the place
pub record HintLeadsTo (rows : List Hint) (hash place : ℕ) : Type 0 where
  pub step : ℕ
  pub near : step < 64
  pub here : RowIs rows hash step (λ hint. (hint.tag ≡ tag_of hash) × (hint.place ≡ place))
  pub before : (earlier : ℕ) → earlier < step → RowIs rows hash earlier (IsPassed hash)

-- a hint leads to the key at each place
abbrev pub LeadToAll : {K : Type 0} → (K → HashWrites) → FoldHasher → List Hint → List K
    → Type 0
LeadToAll writes begun rows keys = (place : ℕ)
    → IfSome (slice_get keys place) (λ key. HintLeadsTo rows (hash_by begun (writes key)) place)

-- where the hints are said to be complete, one leads to each key
abbrev pub AreHinted : {K : Type 0} → (K → HashWrites) → Hints → List K → Type 0
AreHinted writes hints keys =
    IsTrue hints.complete → LeadToAll writes hints.begun hints.rows.items keys
