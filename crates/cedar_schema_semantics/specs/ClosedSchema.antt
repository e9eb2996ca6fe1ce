use Rattle.std.specs.Prelude.{◌≡◌, ◌↔◌, Contains}
use Rattle.cedar_ast.specs.Words.{Chain, HoldsPairwise, PlainName, PlainUid}
use Rattle.cedar_schema_semantics.specs.ActionEntities.{AreActionEntities}
use Rattle.cedar_schema_semantics.specs.PlainSchema.{SchemaEntityType, SchemaAction, PlainSchema}
use Rattle.cedar_schema_semantics.specs.ValidSchema.{ListsDescendant, ListsDescendantAction}

-- the other entity type is the one with its descendants closed: with just those that one or more
-- steps of the listed ones reach
pub record ClosesType (schema : PlainSchema)
    (it other : PlainName × SchemaEntityType) : Type 0 where
  pub key : it.0 ≡ other.0
  pub name : it.1.name ≡ other.1.name
  pub kind : it.1.kind ≡ other.1.kind
  pub descendants : (lower : PlainName)
      → Contains other.1.descendants lower ↔ Chain (ListsDescendant schema) lower it.0

-- the same of actions
pub record ClosesAction (schema : PlainSchema) (it other : PlainUid × SchemaAction) : Type 0 where
  pub key : it.0 ≡ other.0
  pub uid : it.1.uid ≡ other.1.uid
  pub kind : it.1.kind ≡ other.1.kind
  pub descendants : (lower : PlainUid)
      → Contains other.1.descendants lower ↔ Chain (ListsDescendantAction schema) lower it.0

-- the other schema is the one closed: the same entity types and actions with their descendants
-- closed, and the entities of its actions made anew
pub record ClosesSchema (schema closed : PlainSchema) : Type 0 where
  pub entity_types : HoldsPairwise (ClosesType schema) schema.entity_types closed.entity_types
  pub actions : HoldsPairwise (ClosesAction schema) schema.actions closed.actions
  pub action_entities : AreActionEntities closed
