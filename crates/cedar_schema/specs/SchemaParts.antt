use Rattle.std.specs.Prelude.{map}
use Rattle.cedar_schema.specs.declared.building.SchemaParts.{SchemaParts}
use Rattle.cedar_schema_elements.specs.Words.{plain_entry, schema_listing}
use Rattle.cedar_schema_semantics.specs.PlainSchema.{PlainSchema}

-- what a schema holds, as plain data
abbrev pub parts_schema : SchemaParts → PlainSchema
parts_schema parts =
    schema_listing (map plain_entry parts.tables.entity_types.entries) parts.tables.actions.entries
