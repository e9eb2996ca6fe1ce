use Rattle.std.specs.List.{flat_map}
use Rattle.std.specs.Option.{is_some}
use Rattle.std.specs.Prelude.{Bool, true, false, List, [], ◌∷◌, string_bytes}
use Rattle.std.specs.declared.alloc.Global.{Global}
use Rattle.std.specs.declared.string.String.{String}
use Rattle.cedar_ast.specs.Text.{Text}
use Rattle.cedar_schema_ast.specs.declared.json_schema.action_type.ActionType.{ActionType}
use Rattle.cedar_schema_ast.specs.declared.json_schema.raw_name.RawName.{RawName}

-- the id, where it is asked for
abbrev pub id_where : Bool → Text → List Text
id_where true id = id ∷ []
id_where false id = []

-- the ids of the actions among some that are written with attributes
abbrev pub with_attributes : List (String Global × ActionType RawName) → List Text
with_attributes entries = flat_map (λ entry.
    id_where (is_some entry.1.attributes) (string_bytes entry.0)) entries
