-- What is made sure of a schema, step by step.
use Rattle.std.specs.Prelude.{Contains}
use Rattle.cedar_ast.specs.Words.{IsActionType, PlainName, PlainUid, extension_types}
use Rattle.cedar_ast.specs.declared.extension.Extensions.{Extensions}
use Rattle.cedar_schema_semantics.specs.Words.{HasAction, HasEntityType, IsKnownType, IsTypeIn, MentionsEntity, MentionsExtensionType, PlainSchema, ShadowsAction, ShadowsType}
use Rattle.cedar_type_rules.specs.Ty.{Ty}

-- no entity type has the base name of actions' types, which each action's type has; and nothing is
-- shadowed
pub record AreNamesSound (schema : PlainSchema) : Type 0 where
  pub types : (name : PlainName) → HasEntityType schema name → ¬ IsActionType name
  pub actions : (uid : PlainUid) → HasAction schema uid → IsActionType uid.ty
  pub no_type_shadows : (plain qualified : PlainName) → HasEntityType schema plain
      → HasEntityType schema qualified
      → ¬ ShadowsType plain qualified
  pub no_action_shadows : (plain qualified : PlainUid) → HasAction schema plain
      → HasAction schema qualified
      → ¬ ShadowsAction plain qualified

-- entity types that stand in types are known, and extension types were handed in
pub record AreMentionsSound (extensions : Extensions) (schema : PlainSchema) : Type 0 where
  pub entities : (ty : Ty) (name : PlainName) → IsTypeIn schema ty → MentionsEntity ty name
      → IsKnownType schema name
  pub extension_types : (ty : Ty) (name : PlainName) → IsTypeIn schema ty
      → MentionsExtensionType ty name
      → Contains (extension_types extensions) name
