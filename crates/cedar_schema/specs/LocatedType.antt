use Rattle.std.specs.Prelude.{Option}
use Rattle.cedar_ast.specs.declared.loc.Loc.{Loc}
use Rattle.cedar_schema.specs.declared.located_type.LocatedType.{LocatedType}
use Rattle.cedar_types.specs.declared.types.Type.{«Type»}

-- the type that has a location
abbrev pub type_at : LocatedType → «Type»
type_at it = it.ty

-- where it was written
abbrev pub loc_at : LocatedType → Option Loc
loc_at it = it.loc
