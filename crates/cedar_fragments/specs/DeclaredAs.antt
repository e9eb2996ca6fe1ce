use Rattle.std.specs.Prelude.{List, [], ◌∷◌, Option, None, Some}
use Rattle.cedar_ast.specs.Words.{PlainName, PlainUid, Text}
use Rattle.cedar_schema_ast.specs.Declaration.{Declaration, Body}

-- the name with a part before it
abbrev pub within_part : Text → PlainName → PlainName
within_part part name = record { base = name.base; path = part ∷ name.path }

-- the name that has a part and then other parts: the last of them is its base name
abbrev pub name_of_parts : Text → List Text → PlainName
name_of_parts part [] = record { base = part; path = [] }
name_of_parts part (next ∷ rest) = within_part part (name_of_parts next rest)

-- the namespace of what has the path: the name of the parts of the path, and the empty one where
-- there are none
abbrev pub namespace_of : List Text → Option PlainName
namespace_of [] = None
namespace_of (part ∷ path) = Some (name_of_parts part path)

-- what is declared under a full name, as a declaration: in the namespace of its path, with its base
-- name as the id
abbrev pub declared_as : PlainName → Body → Declaration
declared_as name body = record { namespace = namespace_of name.path; id = name.base; body = body }

-- what is declared of an action of the uid, as a declaration: in the namespace of its type's path,
-- with its own id
abbrev pub declared_action : PlainUid → Body → Declaration
declared_action uid body = record
    { namespace = namespace_of uid.ty.path; id = uid.eid; body = body }
