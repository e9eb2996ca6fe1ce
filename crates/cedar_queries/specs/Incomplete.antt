-- Why a schema isn't found complete.
use Rattle.std.specs.List.Sorted.{IsPermutation, IsSorted}
use Rattle.std.specs.Prelude.{◌≡◌, ◌≢◌, List, [], map}
use Rattle.cedar_ast.specs.Words.{name_cmp, type_name, uid_cmp, uid_of}
use Rattle.cedar_ast.specs.declared.entity_type.EntityType.{EntityType}
use Rattle.cedar_ast.specs.declared.entity_uid.EntityUID.{EntityUID}
use Rattle.cedar_queries.specs.Unresolved.{external_actions, external_types, loc_of_first, unresolved}
use Rattle.cedar_queries.specs.declared.completeness.CompleteError.{CompleteError}
use Rattle.cedar_queries.specs.declared.completeness.CompleteError.TheVariants as variant
use Rattle.cedar_queries.specs.declared.completeness.IncompleteSchemaError.{IncompleteSchemaError}
use Rattle.cedar_schema_elements.specs.Words.{action_of, entity_type_of}
use Rattle.cedar_schema_elements.specs.declared.action_id.ValidatorActionId.{ValidatorActionId}
use Rattle.cedar_schema_elements.specs.declared.entity_type.ValidatorEntityType.{ValidatorEntityType}

-- something is external, and the error carries just the names of the external entity types and the
-- uids of the external actions, each list in order, and where the first of the declarations was
-- made
pub record CarriesUnresolved (declared : List (EntityType × ValidatorEntityType))
    (known : List (EntityUID × ValidatorActionId))
    (error : IncompleteSchemaError) : Type 0 where
  pub incomplete : unresolved declared known ≢ []
  pub entity_types : IsPermutation (map (λ it. (entity_type_of it).name) (external_types declared))
      (map type_name error.entity_types.items)
  pub types_in_order : IsSorted name_cmp (map type_name error.entity_types.items)
  pub actions : IsPermutation (map (λ it. (action_of it).uid) (external_actions known))
      (map uid_of error.actions.items)
  pub actions_in_order : IsSorted uid_cmp (map uid_of error.actions.items)
  pub loc : error.loc ≡ loc_of_first (unresolved declared known)

-- the error says what is external, unless memory runs out
abbrev pub IsIncomplete : List (EntityType × ValidatorEntityType)
    → List (EntityUID × ValidatorActionId) → CompleteError → Type 0
IsIncomplete types actions (variant.Incomplete error) = CarriesUnresolved types actions error
IsIncomplete types actions (variant.Memory memory) = Unit {0}
