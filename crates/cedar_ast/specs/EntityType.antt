use Rattle.std.specs.Prelude.{Bool, Option}
use Rattle.cedar_ast.specs.Name.{plain_name, plain_loc, is_plain_shared}
use Rattle.cedar_ast.specs.PlainName.{PlainName}
use Rattle.cedar_ast.specs.declared.entity_type.EntityType.{EntityType}
use Rattle.cedar_ast.specs.declared.loc.Loc.{Loc}

-- the name of an entity type
abbrev pub type_name : EntityType → PlainName
type_name ty = plain_name ty.0

-- where the entity type was written
abbrev pub type_loc : EntityType → Option Loc
type_loc ty = plain_loc ty.0

-- the type's name is shared, so that a copy of it is a count
abbrev pub is_type_shared : EntityType → Bool
is_type_shared ty = is_plain_shared ty.0
