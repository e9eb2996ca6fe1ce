use Rattle.std.specs.BTreeMap.{is_at}
use Rattle.std.specs.Map.{lookup}
use Rattle.std.specs.Prelude.{IsTrue, List, Option, is_some}
use Rattle.std.specs.declared.cmp.Ordering.{Ordering}

-- what a table holds: its entries, in the order of their keys
pub record Entries (K V : Type 0) : Type 0 where
  pub entries : List (K × V)

-- the value at the key that a query, by how it compares to each key, is equal to
abbrev pub get_by : {K V : Type 0} → (K → Ordering) → Entries K V → Option V
get_by compare table = lookup (is_at compare) table.entries

-- a key is there
abbrev pub HasKey : {K V : Type 0} → (K → K → Ordering) → Entries K V → K → Type 0
HasKey cmp table key = IsTrue (is_some (get_by (cmp key) table))
