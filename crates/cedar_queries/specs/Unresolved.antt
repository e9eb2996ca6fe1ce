-- The declarations of a schema that are made elsewhere.
use Rattle.std.specs.Prelude.{Bool, true, false, List, [], ◌++◌, ◌∷◌, Option, None, map}
use Rattle.cedar_ast.specs.declared.entity_type.EntityType.{EntityType}
use Rattle.cedar_ast.specs.declared.entity_uid.EntityUID.{EntityUID}
use Rattle.cedar_ast.specs.declared.loc.Loc.{Loc}
use Rattle.cedar_queries.specs.Selected.{values_where}
use Rattle.cedar_queries.specs.declared.unresolved.UnresolvedDeclaration.{UnresolvedDeclaration}
use Rattle.cedar_queries.specs.declared.unresolved.UnresolvedDeclaration.TheVariants as variant
use Rattle.cedar_queries.specs.declared.unresolved.UnresolvedDeclarations.{UnresolvedDeclarations}
use Rattle.cedar_schema_elements.specs.Words.{action_loc, action_of, entity_type_of}
use Rattle.cedar_schema_elements.specs.declared.action_id.ValidatorActionId.{ValidatorActionId}
use Rattle.cedar_schema_elements.specs.declared.entity_type.ValidatorEntityType.{ValidatorEntityType}
use Rattle.cedar_schema_semantics.specs.Words.{ActionKind, EntityTypeKind, defined_action, enumerated_kind, external_action, external_kind, standard_kind}

-- whether entity types of the kind are external
abbrev pub is_external_type : EntityTypeKind → Bool
is_external_type (standard_kind fields openness tags) = false
is_external_type (enumerated_kind choices) = false
is_external_type external_kind = true

-- whether actions of the kind are external
abbrev pub is_external_kind : ActionKind → Bool
is_external_kind (defined_action principals resources context) = false
is_external_kind external_action = true

-- the external entity types, in order
abbrev pub external_types : List (EntityType × ValidatorEntityType) → List ValidatorEntityType
external_types types = values_where (λ it. is_external_type (entity_type_of it).kind) types

-- the external actions, in order
abbrev pub external_actions : List (EntityUID × ValidatorActionId) → List ValidatorActionId
external_actions actions = values_where (λ it. is_external_kind (action_of it).kind) actions

-- a declaration of something that is defined elsewhere, as it stands in the schema
pub data Unresolved : Type 0 where
  unresolved_type : ValidatorEntityType → Unresolved
  unresolved_action : ValidatorActionId → Unresolved

-- the external entity types, and then the external actions
abbrev pub unresolved : List (EntityType × ValidatorEntityType)
    → List (EntityUID × ValidatorActionId) → List Unresolved
unresolved types actions = map unresolved_type (external_types types)
    ++ map unresolved_action (external_actions actions)

-- the declaration that is lent
abbrev pub lent_declaration : UnresolvedDeclaration → Unresolved
lent_declaration (variant.EntityType ty) = unresolved_type ty.now
lent_declaration (variant.Action action) = unresolved_action action.now

-- what an iterator over unresolved declarations has left
abbrev pub unresolved_left : UnresolvedDeclarations → List Unresolved
unresolved_left it = map unresolved_type (map (λ entry. entry.1) it.types)
    ++ map unresolved_action (map (λ entry. entry.1) it.actions)

-- where something that is defined elsewhere was declared
abbrev pub unresolved_loc : Unresolved → Option Loc
unresolved_loc (unresolved_type it) = it.loc
unresolved_loc (unresolved_action it) = action_loc it

-- where the first of some declarations was made, if there is one
abbrev pub loc_of_first : List Unresolved → Option Loc
loc_of_first [] = None
loc_of_first (first ∷ others) = unresolved_loc first
