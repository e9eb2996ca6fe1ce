-- Principals, resources and descendants of actions that have to be of the schema.
use Rattle.std.specs.Prelude.{◌≡◌, ◌⊎◌, [], ◌∷◌, Contains}
use Rattle.cedar_ast.specs.Words.{PlainName, PlainUid}
use Rattle.cedar_schema_semantics.specs.Words.{Fault, HasAction, HasEntityType, IsPrincipalOrResourceOf, PlainSchema, SchemaAction, out_of_memory, undeclared_action_descendant, undeclared_entity_types}

-- the principals and resources of the action are entity types of the schema, and its descendants
-- actions
pub record ArePlaced (schema : PlainSchema) (it : SchemaAction) : Type 0 where
  pub types : (name : PlainName) → IsPrincipalOrResourceOf it.kind name → HasEntityType schema name
  pub descendants : (uid : PlainUid) → Contains it.descendants uid → HasAction schema uid

-- why the action is refused: memory ran out, or one of these isn't of the schema
abbrev pub IsMisplaced : PlainSchema → SchemaAction → Fault → Type 0
IsMisplaced schema it fault = (fault ≡ out_of_memory)
    ⊎ (((name : PlainName) × (fault ≡ undeclared_entity_types (name ∷ []))
    × IsPrincipalOrResourceOf it.kind name
    × ¬ HasEntityType schema name)
    ⊎ ((uid : PlainUid) × (fault ≡ undeclared_action_descendant uid) × Contains it.descendants uid
    × ¬ HasAction schema uid))
