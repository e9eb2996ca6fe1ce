use Rattle.std.specs.List.{flat_map}
use Rattle.std.specs.Prelude.{List, [], ◌∷◌, map, Contains}
use Rattle.cedar_ast.specs.Words.{PlainName, PlainUid}
use Rattle.cedar_schema_ast.specs.Words.{ActionBody, ActionReference, EntityBody, Reference, Requests, elsewhere, external}
use Rattle.cedar_schema_semantics.specs.Bag.{Bag, declared_entities, declared_actions, action_uids}
use Rattle.cedar_schema_semantics.specs.Counted.{entity_parents}

-- a declaration of an entity type that isn't external is its definition (RFC 116)
abbrev pub entity_definition_in : PlainName → EntityBody → List (PlainName × EntityBody)
entity_definition_in name (external parents) = []
entity_definition_in name body = (name, body) ∷ []

-- the definitions among declarations of entity types
abbrev pub entity_definitions : List (PlainName × EntityBody) → List (PlainName × EntityBody)
entity_definitions entries = flat_map (λ it. entity_definition_in it.0 it.1) entries

-- the definitions of entity types
abbrev pub defined_entities : Bag → List (PlainName × EntityBody)
defined_entities bag = entity_definitions (declared_entities bag)

-- a declaration of an action that isn't external is its definition (RFC 116)
abbrev pub action_definition_in : PlainUid → Requests → List (PlainUid × Requests)
action_definition_in uid elsewhere = []
action_definition_in uid applies_to = (uid, applies_to) ∷ []

-- the definitions of actions, each with the requests that it is for
abbrev pub defined_actions : Bag → List (PlainUid × Requests)
defined_actions bag = flat_map (λ it.
    action_definition_in it.0 it.1.applies_to) (declared_actions bag)

-- the entity type is external: it is declared, and has no definition
abbrev pub IsExternalType : Bag → PlainName → Type 0
IsExternalType bag name = Contains (map (λ it. it.0) (declared_entities bag)) name
    × ¬ Contains (map (λ it. it.0) (defined_entities bag)) name

-- the action is external: it is declared, and has no definition
abbrev pub IsExternalAction : Bag → PlainUid → Type 0
IsExternalAction bag uid = Contains (action_uids bag) uid
    × ¬ Contains (map (λ it. it.0) (defined_actions bag)) uid

-- what declarations of entity types say together of one, parents aside: what its definition says,
-- or that it is external
abbrev pub EntitiesSay : List (PlainName × EntityBody) → PlainName → EntityBody → Type 0
EntitiesSay entries name (external parents) = Contains (map (λ it. it.0) entries) name
    × ¬ Contains (map (λ it. it.0) (entity_definitions entries)) name
EntitiesSay entries name body = Contains (entity_definitions entries) (name, body)

-- what the declarations of an entity type in a bag say together
abbrev pub EntitySays : Bag → PlainName → EntityBody → Type 0
EntitySays bag = EntitiesSay (declared_entities bag)

-- what the declarations of an action say together, parents aside: the requests that its definition
-- is for, or that it is external
abbrev pub ActionSays : Bag → PlainUid → Requests → Type 0
ActionSays bag uid elsewhere = IsExternalAction bag uid
ActionSays bag uid applies_to = Contains (defined_actions bag) (uid, applies_to)

-- some declaration of the entity type has the parent
abbrev pub IsParent : Bag → PlainName → Reference → Type 0
IsParent bag name reference =
    (body : EntityBody) × Contains (declared_entities bag) (name, body)
    × Contains (entity_parents body) reference

-- some declaration of the action has the parent
abbrev pub IsActionParent : Bag → PlainUid → ActionReference → Type 0
IsActionParent bag uid reference =
    (body : ActionBody) × Contains (declared_actions bag) (uid, body)
    × Contains body.parents reference
