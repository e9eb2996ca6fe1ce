use Rattle.std.specs.Prelude.{Bool, Option, ◌&&◌}
use Rattle.cedar_ast.specs.Eid.{eid_text}
use Rattle.cedar_ast.specs.EntityType.{type_name, type_loc, is_type_shared}
use Rattle.cedar_ast.specs.PlainUid.{PlainUid}
use Rattle.cedar_ast.specs.declared.entity_uid.EntityUID.{EntityUID}
use Rattle.cedar_ast.specs.declared.loc.Loc.{Loc}

-- what a uid stands for; its location is no part of it
abbrev pub uid_of : EntityUID → PlainUid
uid_of uid = record { ty = type_name uid.ty; eid = eid_text uid.eid.value }

-- where the uid was written
abbrev pub uid_loc : EntityUID → Option Loc
uid_loc uid = uid.loc

-- where the type in the uid was written
abbrev pub uid_type_loc : EntityUID → Option Loc
uid_type_loc uid = type_loc uid.ty

-- the type's name and the id are shared, so that a copy of the uid is two counts
abbrev pub is_uid_shared : EntityUID → Bool
is_uid_shared uid = is_type_shared uid.ty && uid.eid.is_shared
