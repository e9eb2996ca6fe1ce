-- The values of a record, as plain data.
use Rattle.std.specs.BTreeMap.{BTreeMap}
use Rattle.std.specs.Prelude.{map, string_bytes}
use Rattle.std.specs.declared.alloc.Global.{Global}
use Rattle.std.specs.declared.string.String.{String}
use Rattle.cedar_ast.specs.Words.{Entries, entries_from, tree_of, value_expr}
use Rattle.cedar_ast.specs.declared.value.Value.{Value}

-- the values of a map, each under its name
abbrev pub value_entries : BTreeMap (String Global) Value → Entries
value_entries values = entries_from
    (map (λ entry. (string_bytes entry.0, tree_of (value_expr entry.1))) values.entries)
