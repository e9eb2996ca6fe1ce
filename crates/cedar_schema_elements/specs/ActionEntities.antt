-- The entities of the actions of a schema.
use Rattle.std.specs.BTreeMap.{BTreeMap}
use Rattle.std.specs.List.{flat_map, list_any}
use Rattle.std.specs.Ordering.{is_eq}
use Rattle.std.specs.Prelude.{◌≡◌, ◌↔◌, ◌∷◌, [], List, Contains, if◌then◌else◌, map, string_bytes}
use Rattle.std.specs.declared.alloc.Global.{Global}
use Rattle.std.specs.declared.string.String.{String}
use Rattle.cedar_ast.specs.Words.{Entries, PlainName, PlainUid, entity_ancestors, entity_attrs, entity_tags, entity_uid, entries_from, no_entry, tree_of, uid_cmp, value_expr}
use Rattle.cedar_ast.specs.declared.entity.Entity.{Entity}
use Rattle.cedar_ast.specs.declared.entity_uid.EntityUID.{EntityUID}
use Rattle.cedar_ast.specs.declared.value.Value.{Value}
use Rattle.cedar_schema_elements.specs.ValidatorActionId.{plain_action_entry}
use Rattle.cedar_schema_elements.specs.declared.action_id.ValidatorActionId.{ValidatorActionId}
use Rattle.cedar_schema_semantics.specs.PlainSchema.{ActionEntity, ActionKind, defined_action, external_action, PlainSchema, SchemaAction, SchemaEntityType}

-- the values of a map, each under its name
abbrev pub named_values : BTreeMap (String Global) Value → Entries
named_values values = entries_from
    (map (λ entry. (string_bytes entry.0, tree_of (value_expr entry.1))) values.entries)

-- the entity of an action, as plain data
abbrev pub plain_action_entity : Entity → ActionEntity
plain_action_entity it = record {
  uid = entity_uid it;
  attributes = named_values (entity_attrs it);
  tags = named_values (entity_tags it);
  ancestors = entity_ancestors it;
}

-- a schema of some entity types, some actions, and these entities of actions
abbrev pub schema_with : List (PlainName × SchemaEntityType) → List (EntityUID × ValidatorActionId)
    → List ActionEntity → PlainSchema
schema_with types actions entities = record {
  entity_types = types;
  actions = map plain_action_entry actions;
  action_entities = entities;
}

-- the uids of the actions that list the one among their descendants, in the order of the actions
abbrev pub listed_ancestors : List (PlainUid × SchemaAction) → PlainUid → List PlainUid
listed_ancestors actions lower = flat_map (λ it.
    if list_any (λ below. is_eq (uid_cmp below lower)) it.1.descendants then it.0 ∷ [] else [])
    actions

-- an entity where the action is defined, and none where it is external
abbrev pub entity_if_defined : ActionKind → ActionEntity → List ActionEntity
entity_if_defined (defined_action principals resources context) it = it ∷ []
entity_if_defined external_action it = []

-- the entities of the actions that are defined, in the order of the actions: without attributes and
-- tags, and just below the actions that list them among their descendants
abbrev pub listed_entities : List (PlainUid × SchemaAction) → List ActionEntity
listed_entities actions = flat_map (λ it. entity_if_defined it.1.kind (record {
  uid = it.0;
  attributes = no_entry;
  tags = no_entry;
  ancestors = listed_ancestors actions it.0;
})) actions

-- a schema of some entity types and some actions, with the entities of these
abbrev pub schema_listing : List (PlainName × SchemaEntityType)
    → List (EntityUID × ValidatorActionId) → PlainSchema
schema_listing types actions =
    schema_with types actions (listed_entities (map plain_action_entry actions))

-- the one of some actions lists the other among its descendants
abbrev pub Lists : List (EntityUID × ValidatorActionId) → PlainUid → PlainUid → Type 0
Lists actions lower upper =
    (it : SchemaAction) × Contains (map plain_action_entry actions) (upper, it)
    × Contains it.descendants lower

-- the entity is that of the uid: without attributes and tags, and just below those that stand above
pub record IsEntityOf (IsAbove : PlainUid → Type 0) (stated : PlainUid)
    (it : ActionEntity) : Type 0 where
  pub uid : it.uid ≡ stated
  pub attributes : it.attributes ≡ no_entry
  pub tags : it.tags ≡ no_entry
  pub ancestors : (upper : PlainUid) → Contains it.ancestors upper ↔ IsAbove upper
