use Rattle.std.specs.BTreeMap.{BTreeMap}
use Rattle.std.specs.Prelude.{List, map, string_bytes}
use Rattle.std.specs.declared.alloc.Global.{Global}
use Rattle.std.specs.declared.string.String.{String}
use Rattle.cedar_ast.specs.EntityUID.{uid_of}
use Rattle.cedar_ast.specs.Name.{plain_name}
use Rattle.cedar_ast.specs.Tree.{Tree, Trees, Entries, truth_value, number_value, text_value, uid_value, set_value, map_value, call_value, trees_from, entries_from}
use Rattle.cedar_ast.specs.declared.value.RestrictedExpr.{RestrictedExpr, fold-RestrictedExpr}
use Rattle.cedar_ast.specs.declared.value.RestrictedExpr.TheOpen as layer

-- one layer of an expression, with what its parts stand for in their places
abbrev pub tree_step : layer.RestrictedExpr-F Tree → Tree
tree_step (layer.Bool value) = truth_value value
tree_step (layer.Long value) = number_value value
tree_step (layer.String value) = text_value (string_bytes value)
tree_step (layer.EntityUid uid) = uid_value (uid_of uid)
tree_step (layer.Set elements) = set_value (trees_from elements.items)
tree_step (layer.Record values) =
    map_value (entries_from (map (λ entry. (string_bytes entry.0, entry.1)) values.entries))
tree_step (layer.ExtensionCall function args) =
    call_value (plain_name function) (trees_from args.items)

-- the value that an expression stands for
abbrev pub tree_of : RestrictedExpr → Tree
tree_of = fold-RestrictedExpr Tree tree_step

-- the values that some expressions stand for
abbrev pub trees_of : List RestrictedExpr → Trees
trees_of exprs = trees_from (map tree_of exprs)

-- the values that a record's expressions stand for, by the attributes' names
abbrev pub entries_of : BTreeMap (String Global) RestrictedExpr → Entries
entries_of values = entries_from
    (map (λ entry. (string_bytes entry.0, tree_of entry.1)) values.entries)
