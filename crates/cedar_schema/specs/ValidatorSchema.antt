use Rattle.std.specs.Prelude.{List, Option, map}
use Rattle.cedar_ast.specs.Words.{PlainName, PlainUid, name_cmp, type_name, uid_cmp, uid_of}
use Rattle.cedar_ast.specs.declared.entity_type.EntityType.{EntityType}
use Rattle.cedar_ast.specs.declared.entity_uid.EntityUID.{EntityUID}
use Rattle.cedar_schema.specs.declared.collecting.Located.{Located}
use Rattle.cedar_schema.specs.declared.schema.ValidatorSchema.{ValidatorSchema}
use Rattle.cedar_schema_elements.specs.Words.{plain_entry, schema_listing}
use Rattle.cedar_schema_elements.specs.declared.action_id.ValidatorActionId.{ValidatorActionId}
use Rattle.cedar_schema_elements.specs.declared.entity_type.ValidatorEntityType.{ValidatorEntityType}
use Rattle.cedar_schema_semantics.specs.PlainSchema.{PlainSchema}
use Rattle.cedar_table.specs.Entries.{get_by}

-- the entity types of a schema, each under its name, in the order of the names
abbrev pub schema_entries : ValidatorSchema → List (EntityType × ValidatorEntityType)
schema_entries schema = schema.content.tables.entity_types.entries

-- the actions of a schema, each under its uid, in the order of the uids
abbrev pub action_entries : ValidatorSchema → List (EntityUID × ValidatorActionId)
action_entries schema = schema.content.tables.actions.entries

-- the entity type of that name
abbrev pub entity_type_named : ValidatorSchema → PlainName → Option ValidatorEntityType
entity_type_named schema name =
    get_by (λ key. name_cmp name (type_name key)) schema.content.tables.entity_types

-- the action of that uid
abbrev pub action_of_uid : ValidatorSchema → PlainUid → Option ValidatorActionId
action_of_uid schema uid =
    get_by (λ key. uid_cmp uid (uid_of key)) schema.content.tables.actions

-- what a schema stands for
abbrev pub schema_of : ValidatorSchema → PlainSchema
schema_of schema =
    schema_listing (map plain_entry schema.content.tables.entity_types.entries)
    schema.content.tables.actions.entries

-- what a schema shows of its fragments
abbrev pub located_of : ValidatorSchema → Located
located_of schema = schema.located
