use Rattle.std.specs.Prelude.{Bool, Option, map}
use Rattle.cedar_ast.specs.Id.{id_text}
use Rattle.cedar_ast.specs.PlainName.{PlainName}
use Rattle.cedar_ast.specs.declared.internal_name.InternalName.{InternalName}
use Rattle.cedar_ast.specs.declared.internal_name.NameParts.{NameParts}
use Rattle.cedar_ast.specs.declared.loc.Loc.{Loc}

-- what the parts of a name stand for
abbrev pub parts_of : NameParts → PlainName
parts_of parts = record { base = id_text parts.id; path = map id_text parts.path.items }

-- what a name stands for; its location is no part of it, nor whether its parts are shared
abbrev pub name_of : InternalName → PlainName
name_of name = parts_of name.parts.value

-- where the name was written
abbrev pub name_loc : InternalName → Option Loc
name_loc name = name.loc

-- the name's parts are shared, so that a copy of it is a count
abbrev pub is_name_shared : InternalName → Bool
is_name_shared name = name.parts.is_shared
