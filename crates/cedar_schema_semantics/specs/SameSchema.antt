use Rattle.std.specs.Prelude.{◌≡◌}
use Rattle.cedar_ast.specs.Words.{HoldsPairwise, PlainName, PlainUid, SameItems}
use Rattle.cedar_schema_semantics.specs.PlainSchema.{SchemaEntityType, ActionKind, defined_action, external_action, SchemaAction, ActionEntity, PlainSchema}

-- two entity types are the same: of one name, one kind and the same descendants
pub record SameEntityType (it other : PlainName × SchemaEntityType) : Type 0 where
  pub key : it.0 ≡ other.0
  pub name : it.1.name ≡ other.1.name
  pub kind : it.1.kind ≡ other.1.kind
  pub descendants : SameItems it.1.descendants other.1.descendants

-- two actions are for the same requests
abbrev pub SameActionKind : ActionKind → ActionKind → Type 0
SameActionKind (defined_action principals resources context)
    (defined_action other_principals other_resources other_context) =
    SameItems principals other_principals × SameItems resources other_resources
    × (context ≡ other_context)
SameActionKind external_action external_action = Unit {0}
SameActionKind _ _ = ⊥

-- two actions are the same: of one uid, for the same requests, and with the same descendants
pub record SameAction (it other : PlainUid × SchemaAction) : Type 0 where
  pub key : it.0 ≡ other.0
  pub uid : it.1.uid ≡ other.1.uid
  pub kind : SameActionKind it.1.kind other.1.kind
  pub descendants : SameItems it.1.descendants other.1.descendants

-- the entities of two actions are the same
pub record SameActionEntity (it other : ActionEntity) : Type 0 where
  pub uid : it.uid ≡ other.uid
  pub attributes : it.attributes ≡ other.attributes
  pub tags : it.tags ≡ other.tags
  pub ancestors : SameItems it.ancestors other.ancestors

-- two schemas are the same: their entity types, their actions and the entities of their actions
pub record SameSchema (schema other : PlainSchema) : Type 0 where
  pub entity_types : HoldsPairwise SameEntityType schema.entity_types other.entity_types
  pub actions : HoldsPairwise SameAction schema.actions other.actions
  pub action_entities : HoldsPairwise SameActionEntity schema.action_entities other.action_entities
