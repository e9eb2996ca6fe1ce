-- What a schema has under a name.
use Rattle.std.specs.Prelude.{◌≡◌, List, Option, Some, None, Contains}
use Rattle.cedar_ast.specs.Words.{PlainName, PlainUid}
use Rattle.cedar_schema_elements.specs.ValidatorEntityType.{descendant_names, entity_type_of}
use Rattle.cedar_schema_elements.specs.declared.entity_type.ValidatorEntityType.{ValidatorEntityType}
use Rattle.cedar_schema_semantics.specs.PlainSchema.{PlainSchema, SchemaAction, SchemaEntityType}

-- an entity type of a schema as plain data
abbrev pub plain_type : ValidatorEntityType → SchemaEntityType
plain_type it = record {
  name = (entity_type_of it).name;
  kind = (entity_type_of it).kind;
  descendants = descendant_names it;
}

-- under each name stands one entity type, and under each uid one action
pub record IsKeyed (schema : PlainSchema) : Type 0 where
  pub types : (name : PlainName) (it other : SchemaEntityType)
      → Contains schema.entity_types (name, it) → Contains schema.entity_types (name, other)
      → it ≡ other
  pub actions : (uid : PlainUid) (it other : SchemaAction)
      → Contains schema.actions (uid, it) → Contains schema.actions (uid, other) → it ≡ other

-- what is found of a key among entries: something that stands there, or that nothing does
abbrev pub IsAt : {K V : Type 0} → List (K × V) → K → Option V → Type 0
IsAt {V = V} entries key None = (it : V) → ¬ Contains entries (key, it)
IsAt entries key (Some it) = Contains entries (key, it)

-- what is found of a name: an entity type that stands there, or that none does
abbrev pub IsTypeAt : PlainSchema → PlainName → Option SchemaEntityType → Type 0
IsTypeAt schema = IsAt schema.entity_types

-- what is found of a uid: an action that stands there, or that none does
abbrev pub IsActionAt : PlainSchema → PlainUid → Option SchemaAction → Type 0
IsActionAt schema = IsAt schema.actions
