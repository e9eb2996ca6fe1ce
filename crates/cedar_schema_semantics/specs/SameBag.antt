use Rattle.std.specs.Prelude.{◌≡◌, map, Option, Contains}
use Rattle.cedar_ast.specs.Words.{Included, PlainName, PlainUid, SameItems, Text, Twice}
use Rattle.cedar_schema_ast.specs.Words.{ActionReference, EntityBody, Reference, Requests, elsewhere, enumerated, external, requests, standard}
use Rattle.cedar_schema_semantics.specs.Bag.{Bag, declared_common, declared_entities, action_uids}
use Rattle.cedar_schema_semantics.specs.IllFormed.{HasAttributes}
use Rattle.cedar_schema_semantics.specs.Together.{defined_entities, defined_actions, IsParent, IsActionParent}

-- the same is declared of an entity type, parents aside
abbrev pub SameEntityBody : EntityBody → EntityBody → Type 0
SameEntityBody (standard parents shape tags) (standard other_parents other_shape other_tags) =
    (shape ≡ other_shape) × (tags ≡ other_tags)
SameEntityBody (enumerated choices) (enumerated other_choices) = choices ≡ other_choices
SameEntityBody (external parents) (external other_parents) = Unit {0}
SameEntityBody _ _ = ⊥

-- two actions are for the same requests; their principals and resources are sets
abbrev pub SameRequests : Requests → Requests → Type 0
SameRequests (requests principals resources context)
    (requests other_principals other_resources other_context) =
    SameItems principals other_principals × SameItems resources other_resources
    × (context ≡ other_context)
SameRequests elsewhere elsewhere = Unit {0}
SameRequests _ _ = ⊥

-- what the one bag says, name by name, the other says too, however declarations say it
pub record SaysAll (bag other : Bag) : Type 0 where
  pub common : Included (declared_common bag) (declared_common other)
  pub common_twice : (name : PlainName) → Twice (map (λ it. it.0) (declared_common bag)) name
      → Twice (map (λ it. it.0) (declared_common other)) name
  pub entities : Included (map (λ it. it.0) (declared_entities bag))
      (map (λ it. it.0) (declared_entities other))
  pub entity_definitions : (name : PlainName) (body : EntityBody)
      → Contains (defined_entities bag) (name, body)
      → (found : EntityBody) × Contains (defined_entities other) (name, found)
      × SameEntityBody body found
  pub entities_twice : (name : PlainName) → Twice (map (λ it. it.0) (defined_entities bag)) name
      → Twice (map (λ it. it.0) (defined_entities other)) name
  pub parents : (name : PlainName) (reference : Reference) → IsParent bag name reference
      → IsParent other name reference
  pub actions : Included (action_uids bag) (action_uids other)
  pub action_definitions : (uid : PlainUid) (applies_to : Requests)
      → Contains (defined_actions bag) (uid, applies_to)
      → (found : Requests) × Contains (defined_actions other) (uid, found)
      × SameRequests applies_to found
  pub actions_twice : (uid : PlainUid) → Twice (map (λ it. it.0) (defined_actions bag)) uid
      → Twice (map (λ it. it.0) (defined_actions other)) uid
  pub action_parents : (uid : PlainUid) (reference : ActionReference)
      → IsActionParent bag uid reference
      → IsActionParent other uid reference
  pub attributes : (namespace : Option PlainName) (id : Text) → HasAttributes bag namespace id
      → HasAttributes other namespace id

-- two bags are the same: each says all that the other says
abbrev pub SameBag : Bag → Bag → Type 0
SameBag bag other = SaysAll bag other × SaysAll other bag
