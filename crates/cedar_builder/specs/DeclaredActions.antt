-- The actions that a bag declares, as they stand in a schema.
use Rattle.std.specs.Prelude.{List, Contains, map}
use Rattle.cedar_ast.specs.Words.{PlainUid, uid_of}
use Rattle.cedar_ast.specs.declared.entity_uid.EntityUID.{EntityUID}
use Rattle.cedar_ast.specs.declared.extension.Extensions.{Extensions}
use Rattle.cedar_schema_elements.specs.ValidatorActionId.{plain_action_entry}
use Rattle.cedar_schema_elements.specs.declared.action_id.ValidatorActionId.{ValidatorActionId}
use Rattle.cedar_schema_semantics.specs.Words.{Bag, IsDeclaredAction, declared_actions}

-- each entry is what the bag declares of its uid, and each declared uid has an entry
pub record AreDeclaredActions (bag : Bag) (extensions : Extensions)
    (entries : List (EntityUID × ValidatorActionId)) :
    Type 0 where
  pub each : (uid : EntityUID) (it : ValidatorActionId) → Contains entries (uid, it)
      → IsDeclaredAction bag extensions (plain_action_entry (uid, it))
  pub complete : (uid : PlainUid) → Contains (map (λ it. it.0) (declared_actions bag)) uid
      → Contains (map (λ it. uid_of it.0) entries) uid
