use Rattle.std.specs.BTreeMap.{is_at}
use Rattle.std.specs.List.Sorted.{IsStrictlySortedBy, IsStrictlySortedBy-prop}
use Rattle.std.specs.Map.{lookup}
use Rattle.std.specs.Prelude.{List, map, Option, string_bytes}
use Rattle.std.specs.declared.alloc.Global.{Global}
use Rattle.std.specs.declared.string.String.{String}
use Rattle.cedar_ast.specs.Text.{Text, text_cmp}

-- the names of some pairs of a name and a value
abbrev pub entry_texts : {V : Type 0} → List (String Global × V) → List Text
entry_texts entries = map (λ entry. string_bytes entry.0) entries

-- the names of the pairs are sorted without duplicates, so that none stands twice
abbrev pub AreSortedByName : {V : Type 0} → List (String Global × V) → Type 0
AreSortedByName entries = IsStrictlySortedBy text_cmp (entry_texts entries)

-- in just one way
pub AreSortedByName-prop : {V : Type 0} (entries : List (String Global × V))
    → IsProp (AreSortedByName entries)
AreSortedByName-prop entries = IsStrictlySortedBy-prop text_cmp (entry_texts entries)

-- the value of the first pair with that name, if there is one
abbrev pub value_at : {V : Type 0} → Text → List (String Global × V) → Option V
value_at name entries = lookup (is_at (λ key. text_cmp name (string_bytes key))) entries

-- the pairs, each name as a text
abbrev pub with_texts : {V : Type 0} → List (String Global × V) → List (Text × V)
with_texts entries = map (λ entry. (string_bytes entry.0, entry.1)) entries
