-- What a fragment has at a place.
use Rattle.std.specs.Prelude.{Bool, List, Option, string_bytes}
use Rattle.cedar_ast.specs.Words.{PlainName, Text, name_of}
use Rattle.cedar_ast.specs.declared.loc.Loc.{Loc}
use Rattle.cedar_places.specs.declared.written.Written.{Written}
use Rattle.cedar_places.specs.declared.written.Written.TheVariants as written
use Rattle.cedar_places.specs.declared.written.WrittenAt.{WrittenAt}

-- what may stand at a place: a declaration by its name in full, an action by its type, its id and
-- whether it has attributes; an open record type; the name of an extension type
pub data Mark : Type 0 where
  common_type : PlainName → Mark
  entity_type : PlainName → Mark
  action : PlainName → Text → Bool → Mark
  open_record : Mark
  extension_type : Text → Mark

-- what stands at a place, with the place
abbrev pub Marked : Type 0
Marked = Mark × Option Loc

-- what is listed of something, in order
abbrev pub Marks : Type 0
Marks = List Marked

-- what a part of the table stands for
abbrev pub mark_of : Written → Mark
mark_of (written.CommonType name) = common_type (name_of name)
mark_of (written.EntityType name) = entity_type (name_of name)
mark_of (written.Action ty id has_attributes) =
    action (name_of ty) (string_bytes id) has_attributes
mark_of written.OpenRecord = open_record
mark_of (written.ExtensionType name) = extension_type (string_bytes name)

-- the same with its place
abbrev pub marked : WrittenAt → Marked
marked it = (mark_of it.what, it.loc)
