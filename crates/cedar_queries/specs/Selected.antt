-- Entries whose values pass a test, their keys, and their values.
use Rattle.std.specs.List.{filter}
use Rattle.std.specs.Prelude.{Bool, List, map}

-- those entries whose values pass, in order
abbrev pub entries_where : {K V : Type 0} → (V → Bool) → List (K × V) → List (K × V)
entries_where test entries = filter (λ entry. test entry.1) entries

-- the keys of those entries whose values pass, in order
abbrev pub keys_where : {K V : Type 0} → (V → Bool) → List (K × V) → List K
keys_where test entries = map (λ entry. entry.0) (entries_where test entries)

-- those values that pass, in order
abbrev pub values_where : {K V : Type 0} → (V → Bool) → List (K × V) → List V
values_where test entries = filter test (map (λ entry. entry.1) entries)
