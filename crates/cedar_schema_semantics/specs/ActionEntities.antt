use Rattle.std.specs.List.Sorted.{IsStrictlySortedBy}
use Rattle.std.specs.Prelude.{◌≡◌, ◌↔◌, map, Contains}
use Rattle.cedar_ast.specs.Words.{PlainUid, no_entry, uid_cmp}
use Rattle.cedar_schema_semantics.specs.PlainSchema.{ActionKind, defined_action, external_action, SchemaAction, ActionEntity, PlainSchema}
use Rattle.cedar_schema_semantics.specs.ValidSchema.{ListsDescendantAction}

-- the kind is that of actions that are defined
abbrev pub IsDefinedKind : ActionKind → Type 0
IsDefinedKind (defined_action principals resources context) = Unit {0}
IsDefinedKind external_action = ⊥

-- the schema has a defined action of the uid
abbrev pub DefinesAction : PlainSchema → PlainUid → Type 0
DefinesAction schema uid = (it : SchemaAction) × Contains schema.actions (uid, it)
    × IsDefinedKind it.kind

-- the entity is that of a defined action of the schema: without attributes and tags, and just below
-- the actions that list it among their descendants
pub record IsEntityOfAction (schema : PlainSchema) (it : ActionEntity) : Type 0 where
  pub defined : DefinesAction schema it.uid
  pub attributes : it.attributes ≡ no_entry
  pub tags : it.tags ≡ no_entry
  pub ancestors : (upper : PlainUid)
      → Contains it.ancestors upper ↔ ListsDescendantAction schema it.uid upper

-- the entities of actions that the schema holds are those of its defined actions, each once
pub record AreActionEntities (schema : PlainSchema) : Type 0 where
  pub entities : (it : ActionEntity) → Contains schema.action_entities it
      → IsEntityOfAction schema it
  pub each : (uid : PlainUid) → DefinesAction schema uid
      → Contains (map (λ it. it.uid) schema.action_entities) uid
  pub in_order : IsStrictlySortedBy uid_cmp (map (λ it. it.uid) schema.action_entities)
