-- The fields that are written of an object, and the members and items that lists give.
use Rattle.std.specs.Prelude.{List, [], ◌∷◌, Bool, true, false, Option, Some, None, map}
use Rattle.cedar_ast.specs.Text.{Text}
use Rattle.json.specs.Json.{Json, boolean, string, array, Members, no_members, member}
use Rattle.json.specs.Value.{items_of}

-- a field that stands only where there is something to write in it, before other fields
abbrev pub optional_member : Text → Option Json → Members → Members
optional_member name None rest = rest
optional_member name (Some j) rest = member name j rest

-- what is written in a field for a truth value: nothing where its absence means the same
abbrev pub flag_held : Bool → Bool → Option Json
flag_held true true = None
flag_held true false = Some (boolean false)
flag_held false true = Some (boolean true)
flag_held false false = None

-- members in the order of a list of keys with values
abbrev pub keyed_members : List (Text × Json) → Members
keyed_members [] = no_members
keyed_members (entry ∷ rest) = member entry.0 entry.1 (keyed_members rest)

-- the array of some texts
abbrev pub text_array : List Text → Json
text_array texts = array (items_of (map string texts))
