use Rattle.std.specs.Prelude.{List}
use Rattle.cedar_ast.specs.Words.{Entries, PlainName, PlainUid}
use Rattle.cedar_schema_semantics.specs.EntityTypeKind.{EntityTypeKind}
use Rattle.cedar_type_rules.specs.Ty.{Ty}

-- an entity type of a schema: its name, its kind, and the names of its descendants in some order
pub record SchemaEntityType : Type 0 where
  pub name : PlainName
  pub kind : EntityTypeKind
  pub descendants : List PlainName

-- the requests that an action of a schema is for: their principals and resources, in some order,
-- and their context; an external action has none of its own
pub data ActionKind : Type 0 where
  defined_action : List PlainName → List PlainName → Ty → ActionKind
  external_action : ActionKind

-- an action of a schema: its uid, its kind, and the uids of its descendants in some order
pub record SchemaAction : Type 0 where
  pub uid : PlainUid
  pub kind : ActionKind
  pub descendants : List PlainUid

-- the entity of an action: its uid, its attributes and tags, and the uids of its ancestors in some
-- order
pub record ActionEntity : Type 0 where
  pub uid : PlainUid
  pub attributes : Entries
  pub tags : Entries
  pub ancestors : List PlainUid

-- a schema as plain data: its entity types and its actions, each under its name, and the entities
-- of its actions
pub record PlainSchema : Type 0 where
  pub entity_types : List (PlainName × SchemaEntityType)
  pub actions : List (PlainUid × SchemaAction)
  pub action_entities : List ActionEntity
