-- Bags that are the same are ill-formed both or neither, and declare the same schemas.
use Rattle.cedar_ast.proofs.Basics.{Contains-image}
use Rattle.cedar_ast.proofs.Lists.{Contains-preimage}
use Rattle.cedar_schema_laws.proofs.KindLemmas.{kind_there, action_kind_there}
use Rattle.cedar_schema_laws.proofs.SaidFaults.{descendant_said, descendant_action_said, external_said, fault_said}
use Rattle.cedar_schema_laws.proofs.SaidLemmas.{same_defined}
use Rattle.cedar_schema_laws.specs.Words.{ActionSays, Bag, EntityBody, EntitySays, Extensions, IsDeclaredAction, IsDeclaredEntityType, IsDeclaredSchema, IsExternalAction, PlainName, PlainSchema, PlainUid, Requests, SameBagsDeclareTheSame, SameEntityBody, SameRequests, SaysAll, SchemaAction, SchemaEntityType, defined_actions, definitions, elsewhere, enumerated, external, requests, standard}
use Rattle.cedar_schema_semantics.proofs.TogetherLemmas.{definition_says, action_definition_says}

module _ (bag other : Bag) (said : SaysAll bag other) (back : SaysAll other bag) where
  -- what the declarations of an entity type say in the one they say in the other
  entity_says_there : (extensions : Extensions) (name : PlainName) (body : EntityBody) → EntitySays bag name body
      → (found : EntityBody) × EntitySays other name found × SameEntityBody body found
  entity_says_there extensions name (external ps) says = (external ps, external_said bag other extensions said back name says, tt)
  entity_says_there extensions name (standard ps shape tags) says =
      let found = said.entity_definitions name (standard ps shape tags) says in
      (found.0, definition_says other name found.0 found.1, found.2)
  entity_says_there extensions name (enumerated choices) says =
      let found = said.entity_definitions name (enumerated choices) says in
      (found.0, definition_says other name found.0 found.1, found.2)

  -- an external action of the one is one of the other
  external_action_said : (uid : PlainUid) → IsExternalAction bag uid → IsExternalAction other uid
  external_action_said uid is_external = (
    said.actions uid is_external.0,
    λ defined.
        (let key = λ (each : PlainUid × Requests). each.0 in
        let it = Contains-preimage key (defined_actions other) uid defined in
        let found = back.action_definitions it.0.0 it.0.1 it.1 in
        is_external.1 (rw it.2 at (Contains-image key (defined_actions bag) (it.0.0, found.0) found.1))),
  )

  -- what the declarations of an action say in the one they say in the other
  action_says_there : (uid : PlainUid) (it : Requests) → ActionSays bag uid it → (found : Requests) × ActionSays other uid found
      × SameRequests it found
  action_says_there uid elsewhere says = (elsewhere, external_action_said uid says, tt)
  action_says_there uid (requests ps rs context) says =
      let found = said.action_definitions uid (requests ps rs context) says in
      (found.0, action_definition_says other uid found.0 found.1, found.2)

module _ (bag other : Bag) (extensions : Extensions) (said : SaysAll bag other) (back : SaysAll other bag) where
  -- an entity type that the one declares the other does
  declared_type_there : (it : PlainName × SchemaEntityType) → IsDeclaredEntityType bag extensions it
      → IsDeclaredEntityType other extensions it
  declared_type_there it declared =
      let found = entity_says_there bag other said back extensions it.0 declared.body declared.says in
      record {
        body = found.0;
        says = found.1;
        name = declared.name;
        kind = kind_there (definitions bag extensions) (definitions other extensions)
            (same_defined bag other extensions said back) declared.body found.0 it.1.kind found.2 declared.kind;
        descendants = λ lower. (
          λ among. descendant_said bag other extensions said back lower it.0 ((declared.descendants lower).0 among),
          λ below. (declared.descendants lower).1 (descendant_said other bag extensions back said lower it.0 below),
        );
      }

  -- an action that the one declares the other does
  declared_action_there : (it : PlainUid × SchemaAction) → IsDeclaredAction bag extensions it → IsDeclaredAction other extensions it
  declared_action_there it declared =
      let found = action_says_there bag other said back it.0 declared.applies_to declared.says in
      record {
        applies_to = found.0;
        says = found.1;
        uid = declared.uid;
        kind = action_kind_there (definitions bag extensions) (definitions other extensions)
            (same_defined bag other extensions said back) (same_defined other bag extensions back said)
            declared.applies_to found.0 it.1.kind found.2 declared.kind;
        descendants = λ lower. (
          λ among. descendant_action_said bag other extensions said back lower it.0 ((declared.descendants lower).0 among),
          λ below. (declared.descendants lower).1 (descendant_action_said other bag extensions back said lower it.0 below),
        );
      }

  -- a schema that the one declares the other does
  schema_there : (schema : PlainSchema) → IsDeclaredSchema bag extensions schema → IsDeclaredSchema other extensions schema
  schema_there schema declared = record {
    entity_types = λ it among. declared_type_there it (declared.entity_types it among);
    each_entity_type = λ name among. declared.each_entity_type name (back.entities name among);
    entity_types_in_order = declared.entity_types_in_order;
    actions = λ it among. declared_action_there it (declared.actions it among);
    each_action = λ uid among. declared.each_action uid (back.actions uid among);
    actions_in_order = declared.actions_in_order;
    action_entities = declared.action_entities;
  }

-- bags that are the same are ill-formed both or neither, and declare the same schemas
pub same_bags : SameBagsDeclareTheSame
same_bags bag other extensions (said, back) = (
  (λ ill. fault_said bag other extensions said back ill.0 ill.1, λ ill. fault_said other bag extensions back said ill.0 ill.1),
  λ schema. (schema_there bag other extensions said back schema, schema_there other bag extensions back said schema),
)
