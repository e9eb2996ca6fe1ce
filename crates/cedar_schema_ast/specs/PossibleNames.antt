use Rattle.std.specs.Prelude.{Option, List, ◌∷◌, map}
use Rattle.cedar_ast.specs.Words.{PlainName, name_loc, name_of}
use Rattle.cedar_ast.specs.declared.internal_name.InternalName.{InternalName}
use Rattle.cedar_ast.specs.declared.loc.Loc.{Loc}
use Rattle.cedar_ast.specs.declared.non_empty.NonEmpty.{NonEmpty}

-- what the names of a list stand for, in order
abbrev pub names_of : NonEmpty InternalName → List PlainName
names_of names = name_of names.head ∷ map name_of names.tail.items

-- where the names of a list were written, in order
abbrev pub locs_of : NonEmpty InternalName → List (Option Loc)
locs_of names = name_loc names.head ∷ map name_loc names.tail.items
