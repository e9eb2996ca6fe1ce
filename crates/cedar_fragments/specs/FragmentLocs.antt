use Rattle.std.specs.List.{flat_map}
use Rattle.std.specs.Prelude.{[], ◌∷◌, ◌++◌, Option, None, Some}
use Rattle.cedar_ast.specs.Words.{name_loc, type_loc, uid_loc, uid_type_loc}
use Rattle.cedar_fragments.specs.declared.namespace.action_def.ActionDef.{ActionDef}
use Rattle.cedar_fragments.specs.declared.namespace.actions.ActionFragment.{ActionFragment}
use Rattle.cedar_fragments.specs.declared.namespace.actions.ActionParent.{ActionParent}
use Rattle.cedar_fragments.specs.declared.namespace.actions.ActionRequests.{ActionRequests}
use Rattle.cedar_fragments.specs.declared.namespace.actions.ActionsDef.{ActionsDef}
use Rattle.cedar_fragments.specs.declared.namespace.common_types.CommonTypeDef.{CommonTypeDef}
use Rattle.cedar_fragments.specs.declared.namespace.common_types.CommonTypeDefs.{CommonTypeDefs}
use Rattle.cedar_fragments.specs.declared.namespace.definition.ValidatorNamespaceDef.{ValidatorNamespaceDef}
use Rattle.cedar_fragments.specs.declared.namespace.entity_type_def.EntityTypeDef.{EntityTypeDef}
use Rattle.cedar_fragments.specs.declared.namespace.entity_types.EntityTypeFragment.{EntityTypeFragment}
use Rattle.cedar_fragments.specs.declared.namespace.entity_types.EntityTypeFragment.TheVariants as variant
use Rattle.cedar_fragments.specs.declared.namespace.entity_types.EntityTypesDef.{EntityTypesDef}
use Rattle.cedar_fragments.specs.declared.namespace.fragment.ValidatorSchemaFragment.{ValidatorSchemaFragment}
use Rattle.cedar_schema_ast.specs.TypeLocs.{Locs, type_locs}
use Rattle.cedar_schema_ast.specs.declared.json_schema.type_of.Type.{«Type»}

-- none of the locations in a name
abbrev pub no_locs : {N : Type 0} → N → Locs
no_locs name = []

-- over names of some form, where it is given which locations stand in a name
module _ (N : Type 0) (locs : N → Locs) where
  -- the locations in a common type: that of the declaration, then those in the type
  abbrev pub common_type_locs : CommonTypeDef N → Locs
  common_type_locs def = name_loc def.name ∷ type_locs N locs def.ty

  -- the locations in the common types, in turn
  abbrev pub common_types_locs : CommonTypeDefs N → Locs
  common_types_locs it = flat_map common_type_locs it.defs.items

  -- the locations in the type of tags, if there is one
  abbrev pub tags_locs : Option («Type» N) → Locs
  tags_locs None = []
  tags_locs (Some ty) = type_locs N locs ty

  -- the locations in what is declared of an entity type: those in the attributes, in the parents
  -- and in the tags
  abbrev pub entity_fragment_locs : EntityTypeFragment N → Locs
  entity_fragment_locs (variant.Standard attributes parents tags) =
      type_locs N locs attributes.0 ++ flat_map locs parents.items ++ tags_locs tags
  entity_fragment_locs (variant.Enum choices) = []
  entity_fragment_locs (variant.External parents) = flat_map locs parents.items

  -- the locations in an entity type: that of the declaration, then those in what is declared
  abbrev pub entity_type_locs : EntityTypeDef N → Locs
  entity_type_locs def = type_loc def.name ∷ entity_fragment_locs def.fragment

  -- the locations in the entity types, in turn
  abbrev pub entity_types_locs : EntityTypesDef N → Locs
  entity_types_locs it = flat_map entity_type_locs it.defs.items

  -- the locations in the requests that an action is for: those in the principals, in the resources
  -- and in the context
  abbrev pub requests_locs : Option (ActionRequests N) → Locs
  requests_locs None = []
  requests_locs (Some it) = flat_map locs it.principals.items ++ flat_map locs it.resources.items
      ++ type_locs N locs it.context

  -- the locations in a parent of an action: that of the reference, then those in the name of its
  -- type
  abbrev pub parent_locs : ActionParent N → Locs
  parent_locs it = it.loc ∷ locs it.ty

-- over names of some form, and names of the types of actions of another
module _ (N : Type 0) (locs : N → Locs) (A : Type 0) (action_locs : A → Locs) where
  -- the locations in what is declared of an action: that of its name, then those in the requests
  -- and in the parents
  abbrev pub action_fragment_locs : ActionFragment N A → Locs
  action_fragment_locs it = it.loc ∷ requests_locs N locs it.requests
      ++ flat_map (parent_locs A action_locs) it.parents.items

  -- the locations in an action: that of the declaration, that of the type in its uid, then those in
  -- what is declared
  abbrev pub action_def_locs : ActionDef N A → Locs
  action_def_locs def = uid_loc def.uid ∷ uid_type_loc def.uid ∷ action_fragment_locs def.fragment

  -- the locations in the actions, in turn
  abbrev pub actions_locs : ActionsDef N A → Locs
  actions_locs it = flat_map action_def_locs it.defs.items

  -- the locations in what a definition of a namespace declares: its common types, its entity types
  -- and its actions
  abbrev pub definition_locs : ValidatorNamespaceDef N A → Locs
  definition_locs it =
      common_types_locs N locs it.common_types ++ entity_types_locs N locs it.entity_types
      ++ actions_locs it.actions

  -- the locations in what the definitions of a fragment declare, in turn
  abbrev pub fragment_locs : ValidatorSchemaFragment N A → Locs
  fragment_locs it = flat_map definition_locs it.definitions.items
