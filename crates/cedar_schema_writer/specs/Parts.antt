-- The parts of a schema, and the names that are written, as plain data.
use Rattle.std.specs.Option.{option_map}
use Rattle.std.specs.Prelude.{List, [], ◌++◌, map, Option, Some, None, string_bytes}
use Rattle.cedar_ast.specs.Words.{PlainName, PlainUid, plain_name, type_name}
use Rattle.cedar_ast.specs.declared.entity_type.EntityType.{EntityType}
use Rattle.cedar_ast.specs.declared.entity_uid.EntityUID.{EntityUID}
use Rattle.cedar_ast.specs.declared.name.Name.{Name}
use Rattle.cedar_schema_ast.specs.Words.{plain_action_type, raw_name}
use Rattle.cedar_schema_ast.specs.declared.json_schema.action_type.ActionEntityUID.{ActionEntityUID}
use Rattle.cedar_schema_ast.specs.declared.json_schema.raw_name.RawName.{RawName}
use Rattle.cedar_schema_elements.specs.Words.{plain_action_entry, plain_entry}
use Rattle.cedar_schema_elements.specs.declared.action_id.ValidatorActionId.{ValidatorActionId}
use Rattle.cedar_schema_elements.specs.declared.entity_type.ValidatorEntityType.{ValidatorEntityType}
use Rattle.cedar_schema_semantics.specs.Words.{ActionEntity, Names, PlainSchema}
use Rattle.cedar_schema_writer.specs.declared.known.Known.{Known}

-- entity types, each under its name
abbrev pub Types : Type 0
Types = List (EntityType × ValidatorEntityType)

-- actions, each under its uid
abbrev pub Actions : Type 0
Actions = List (EntityUID × ValidatorActionId)

-- the schema of some entity types, some actions, and these entities of actions
abbrev pub parts_schema : Types → Actions → List ActionEntity → PlainSchema
parts_schema types actions entities = record {
  entity_types = map plain_entry types;
  actions = map plain_action_entry actions;
  action_entities = entities;
}

-- the schema whose names are known, without entities of actions
abbrev pub known_schema : Known → PlainSchema
known_schema known = parts_schema known.entity_types.now.entries known.actions.now.entries []

-- the names that are known: those of the entity types, and the types of the actions as they were
-- collected
abbrev pub known_names : Known → Names
known_names known = record {
  common = [];
  entities = map (λ it. it.0) (known_schema known).entity_types
      ++ map type_name known.action_types.now.keys;
  actions = map (λ it. it.0) (known_schema known).actions;
}

-- a namespace as plain data
abbrev pub plain_namespace : Option Name → Option PlainName
plain_namespace namespace = option_map plain_name namespace

-- the type of a reference to an action, `Action` where none is written
abbrev pub written_action_type : Option RawName → PlainName
written_action_type None = plain_action_type
written_action_type (Some name) = raw_name name

-- the uid that a reference to an action writes
abbrev pub written_uid : ActionEntityUID RawName → PlainUid
written_uid it = record { ty = written_action_type it.ty; eid = string_bytes it.id }
