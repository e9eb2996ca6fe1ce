-- A table that is being made.
use Rattle.std.specs.Prelude.{◌≡◌, ◌∷◌, ◌++◌, false, map, Option, is_some, string_bytes}
use Rattle.std.specs.declared.alloc.Global.{Global}
use Rattle.std.specs.declared.string.String.{String}
use Rattle.cedar_ast.specs.Words.{PlainName, action_word, unreserved_id_text}
use Rattle.cedar_ast.specs.declared.unreserved_id.UnreservedId.{UnreservedId}
use Rattle.cedar_places.specs.Mark.{Marked, Marks, action, common_type, entity_type, marked}
use Rattle.cedar_places.specs.Table.{full_name}
use Rattle.cedar_places.specs.declared.table.Table.{Table}
use Rattle.cedar_schema_ast.specs.Words.{common_type_text}
use Rattle.cedar_schema_ast.specs.declared.json_schema.action_type.ActionType.{ActionType}
use Rattle.cedar_schema_ast.specs.declared.json_schema.common_type_id.CommonTypeId.{CommonTypeId}
use Rattle.cedar_schema_ast.specs.declared.json_schema.entity_type.EntityType.{EntityType}
use Rattle.cedar_schema_ast.specs.declared.json_schema.fragment.CommonType.{CommonType}
use Rattle.cedar_schema_ast.specs.declared.json_schema.raw_name.RawName.{RawName}

-- some marks are listed behind what was, unless memory ran out
abbrev pub IsListed : Marks → Table → Table → Type 0
IsListed marks before after = after.is_refused ≡ false → (before.is_refused ≡ false)
    × (map marked after.listed.items ≡ map marked before.listed.items ++ marks)

-- what is listed of what stands under a key: itself, and then what is in it
abbrev pub marks_under : {K T : Type 0} → (K → T → Marked) → (T → Marks) → K × T → Marks
marks_under mark inner entry = mark entry.0 entry.1 ∷ inner entry.1

module _ (namespace : Option PlainName) where
  -- the declaration of a common type
  abbrev pub common_type_mark : CommonTypeId → CommonType RawName → Marked
  common_type_mark id it = (common_type (full_name namespace (common_type_text id)), it.loc)

  -- the declaration of an entity type
  abbrev pub entity_type_mark : UnreservedId → EntityType RawName → Marked
  entity_type_mark id it = (entity_type (full_name namespace (unreserved_id_text id)), it.loc)

  -- the declaration of an action
  abbrev pub action_mark : String Global → ActionType RawName → Marked
  action_mark id it =
      (action (full_name namespace action_word) (string_bytes id) (is_some it.attributes), it.loc)
