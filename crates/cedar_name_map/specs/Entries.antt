use Rattle.std.specs.Prelude.{List}
use Rattle.std.specs.declared.alloc.Global.{Global}
use Rattle.std.specs.declared.string.String.{String}
use Rattle.cedar_name_map.specs.declared.by_name.ByName.{ByName}

-- the pairs of a name and a value that values by name are, in the order of the names
abbrev pub entries_by_name : {V : Type 0} → ByName V → List (String Global × V)
entries_by_name all = all.entries.items
