use Rattle.std.specs.Prelude.{Option}
use Rattle.cedar_ast.specs.Words.{PlainName, name_loc, name_of}
use Rattle.cedar_ast.specs.declared.loc.Loc.{Loc}
use Rattle.cedar_schema_ast.specs.declared.json_schema.raw_name.RawName.{RawName}

-- the name that was written; its location is no part of it
abbrev pub raw_name : RawName → PlainName
raw_name name = name_of name.0

-- where the name was written
abbrev pub raw_loc : RawName → Option Loc
raw_loc name = name_loc name.0
