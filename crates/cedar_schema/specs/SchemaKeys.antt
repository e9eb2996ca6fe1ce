use Rattle.std.specs.Prelude.{List}
use Rattle.cedar_ast.specs.declared.entity_type.EntityType.{EntityType}
use Rattle.cedar_ast.specs.declared.entity_uid.EntityUID.{EntityUID}
use Rattle.cedar_schema_elements.specs.ValidatorActionId as action
use Rattle.cedar_schema_elements.specs.ValidatorEntityType as entity_type
use Rattle.cedar_schema_elements.specs.declared.action_id.ValidatorActionId.{ValidatorActionId}
use Rattle.cedar_schema_elements.specs.declared.entity_type.ValidatorEntityType.{ValidatorEntityType}

-- each key was written where the name of its entity type was, or the uid of its action
pub record AreKeysLocated (types : List (EntityType × ValidatorEntityType))
    (actions : List (EntityUID × ValidatorActionId)) :
    Type 0 where
  pub of_types : entity_type.AreLocatedAsKeys types
  pub of_actions : action.AreLocatedAsKeys actions
