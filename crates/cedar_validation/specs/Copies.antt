-- Entity types and actions that are copied.
use Rattle.std.specs.Prelude.{◌≡◌}
use Rattle.cedar_ast.specs.Words.{Text, type_loc, uid_loc, uid_type_loc}
use Rattle.cedar_ast.specs.declared.entity_type.EntityType.{EntityType}
use Rattle.cedar_ast.specs.declared.entity_uid.EntityUID.{EntityUID}
use Rattle.cedar_schema_elements.specs.ValidatorActionId as action
use Rattle.cedar_schema_elements.specs.Words.{action_loc, action_of, attributes_of, name_loc, name_type_loc, plain_action_entry, plain_entry}
use Rattle.cedar_schema_elements.specs.declared.action_id.ValidatorActionId.{ValidatorActionId}
use Rattle.cedar_schema_elements.specs.declared.entity_type.ValidatorEntityType.{ValidatorEntityType}
use Rattle.cedar_schema_semantics.specs.SameSchema.{SameAction, SameEntityType}
use Rattle.cedar_types.specs.Located.{located_at}

-- an entity type under its name has a copy: the same with the same locations
pub record IsTypeCopied (it copy : EntityType × ValidatorEntityType) : Type 0 where
  pub same : SameEntityType (plain_entry copy) (plain_entry it)
  pub key_loc : type_loc copy.0 ≡ type_loc it.0
  pub name_loc : name_loc copy.1 ≡ name_loc it.1
  pub attributes : (name : Text)
      → located_at name (attributes_of copy.1) ≡ located_at name (attributes_of it.1)
  pub loc : copy.1.loc ≡ it.1.loc

-- an action under its uid has a copy: the same, for just its requests, with the same locations
pub record IsActionCopied (it copy : EntityUID × ValidatorActionId) : Type 0 where
  pub same : SameAction (plain_action_entry copy) (plain_action_entry it)
  pub requests : (action_of copy.1).kind ≡ (action_of it.1).kind
  pub key_loc : uid_loc copy.0 ≡ uid_loc it.0
  pub key_type_loc : uid_type_loc copy.0 ≡ uid_type_loc it.0
  pub name_loc : action.name_loc copy.1 ≡ action.name_loc it.1
  pub name_type_loc : name_type_loc copy.1 ≡ name_type_loc it.1
  pub loc : action_loc copy.1 ≡ action_loc it.1
