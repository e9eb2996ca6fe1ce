use Rattle.std.specs.Map.Iter.{deref_pair}
use Rattle.std.specs.Prelude.{List, [], ◌∷◌, Some, None}
use Rattle.std.specs.declared.alloc.Global.{Global}
use Rattle.std.specs.declared.string.String.{String}
use Rattle.cedar_ast.specs.declared.value.RestrictedExpr.{RestrictedExpr}
use Rattle.cedar_types.specs.declared.entries_left.EntriesLeft.{EntriesLeft}

-- the entries that are left: the first and those that follow it, and none where there is no first
abbrev pub entries_left : EntriesLeft → List (String Global × RestrictedExpr)
entries_left left = elim left.first [ Some entry ↦ deref_pair entry ∷ left.rest | None ↦ [] ]
