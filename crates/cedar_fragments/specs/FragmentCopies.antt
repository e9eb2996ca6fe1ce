use Rattle.std.specs.Option.{option_map}
use Rattle.std.specs.Prelude.{◌≡◌, Option}
use Rattle.cedar_fragments.specs.ActionDeclarations.{action_fragment_body, action_fragment_declaration, action_fragment_declarations, fragment_parent, fragment_requests}
use Rattle.cedar_fragments.specs.DefinitionsPairwise.{declarations_pairwise}
use Rattle.cedar_fragments.specs.FragmentDeclarations.{definition_declarations, fragment_declarations}
use Rattle.cedar_fragments.specs.FragmentLocs.{action_def_locs, action_fragment_locs, actions_locs, common_type_locs, common_types_locs, definition_locs, entity_fragment_locs, entity_type_locs, entity_types_locs, fragment_locs, parent_locs, requests_locs, tags_locs}
use Rattle.cedar_fragments.specs.FragmentNamespaces.{fragment_namespaces}
use Rattle.cedar_fragments.specs.Located.{common_type_defs, definition_common_names, definition_loc, definition_name, fragment_common_names, located_common_names, located_name, named_namespaces}
use Rattle.cedar_fragments.specs.TypeDeclarations.{common_type_declaration, common_type_declarations, entity_type_declaration, entity_type_declarations, fragment_body}
use Rattle.cedar_fragments.specs.declared.namespace.action_def.ActionDef.{ActionDef}
use Rattle.cedar_fragments.specs.declared.namespace.actions.ActionFragment.{ActionFragment}
use Rattle.cedar_fragments.specs.declared.namespace.actions.ActionParent.{ActionParent}
use Rattle.cedar_fragments.specs.declared.namespace.actions.ActionRequests.{ActionRequests}
use Rattle.cedar_fragments.specs.declared.namespace.actions.ActionsDef.{ActionsDef}
use Rattle.cedar_fragments.specs.declared.namespace.common_types.CommonTypeDef.{CommonTypeDef}
use Rattle.cedar_fragments.specs.declared.namespace.common_types.CommonTypeDefs.{CommonTypeDefs}
use Rattle.cedar_fragments.specs.declared.namespace.definition.ValidatorNamespaceDef.{ValidatorNamespaceDef}
use Rattle.cedar_fragments.specs.declared.namespace.entity_type_def.EntityTypeDef.{EntityTypeDef}
use Rattle.cedar_fragments.specs.declared.namespace.entity_types.EntityTypeFragment.{EntityTypeFragment}
use Rattle.cedar_fragments.specs.declared.namespace.entity_types.EntityTypesDef.{EntityTypesDef}
use Rattle.cedar_fragments.specs.declared.namespace.fragment.ValidatorSchemaFragment.{ValidatorSchemaFragment}
use Rattle.cedar_schema_ast.specs.Words.{LocatesAlike, Locs, Reference, RefersAlike, ShowsSame, type_expr}
use Rattle.cedar_schema_ast.specs.declared.json_schema.reference_type.ReferenceType.{ReferenceType}
use Rattle.cedar_schema_ast.specs.declared.json_schema.type_of.Type.{«Type»}

-- names of some form, where it is given when one is like another
module _ {N : Type 0} (alike : N → N → Type 0) where
  -- a copy shows the same, whatever alike names both refer to
  abbrev pub RefersSame : {X Y : Type 0} → ((ReferenceType → N → Reference) → X → Y) → X → X
      → Type 0
  RefersSame show it copy = ShowsSame (RefersAlike N alike) show it copy

  -- and the same locations stand in it, whatever alike names both are located at
  abbrev pub SameLocs : {X : Type 0} → ((N → Locs) → X → Locs) → X → X → Type 0
  SameLocs located it copy = ShowsSame (LocatesAlike N alike) located it copy

  -- the type of tags, if there is one, is a copy of another
  pub record IsTagsCopy (it copy : Option («Type» N)) : Type 0 where
    pub written : RefersSame (λ refer. option_map (type_expr N refer)) it copy
    pub locs : SameLocs (tags_locs N) it copy

  -- a common type is a copy of another, under the same name at the same location
  pub record IsCommonTypeDefCopy (it copy : CommonTypeDef N) : Type 0 where
    pub declaration : RefersSame (common_type_declaration N) it copy
    pub locs : SameLocs (common_type_locs N) it copy
    pub name : located_name copy.name ≡ located_name it.name

  -- the common types of a definition are copies, in their order
  pub record IsCommonTypeDefsCopy (it copy : CommonTypeDefs N) : Type 0 where
    pub declarations : RefersSame (common_type_declarations N) it copy
    pub locs : SameLocs (common_types_locs N) it copy
    pub names : located_common_names N (common_type_defs N copy)
        ≡ located_common_names N (common_type_defs N it)

  -- what is declared of an entity type is a copy
  pub record IsEntityTypeFragmentCopy (it copy : EntityTypeFragment N) : Type 0 where
    pub body : RefersSame (fragment_body N) it copy
    pub locs : SameLocs (entity_fragment_locs N) it copy

  -- an entity type is a copy of another
  pub record IsEntityTypeDefCopy (it copy : EntityTypeDef N) : Type 0 where
    pub declaration : RefersSame (entity_type_declaration N) it copy
    pub locs : SameLocs (entity_type_locs N) it copy

  -- the entity types of a definition are copies, in their order
  pub record IsEntityTypesDefCopy (it copy : EntityTypesDef N) : Type 0 where
    pub declarations : RefersSame (entity_type_declarations N) it copy
    pub locs : SameLocs (entity_types_locs N) it copy

  -- the requests of an action are a copy of those of another, or both actions are external
  pub record IsRequestsCopy (it copy : Option (ActionRequests N)) : Type 0 where
    pub requests : RefersSame (fragment_requests N) it copy
    pub locs : SameLocs (requests_locs N) it copy

  -- a parent of an action is a copy of another
  pub record IsActionParentCopy (it copy : ActionParent N) : Type 0 where
    pub reference : RefersSame (fragment_parent N) it copy
    pub locs : SameLocs (parent_locs N) it copy

-- names of some form, and names of the types of actions of another, where it is given when one is
-- like another
module _ {N A : Type 0} (alike : N → N → Type 0) (alike_action : A → A → Type 0) where
  -- a copy declares the same, whatever alike names both refer to
  abbrev pub DeclaresSame : {X Y : Type 0}
      → ((ReferenceType → N → Reference) → (ReferenceType → A → Reference) → X → Y) → X → X → Type 0
  DeclaresSame declared it copy =
      (refer : ReferenceType → N → Reference) (refer_action : ReferenceType → A → Reference)
      → RefersAlike N alike refer
      → RefersAlike A alike_action refer_action
      → declared refer refer_action copy ≡ declared refer refer_action it

  -- and the same locations stand in it
  abbrev pub LocatesSame : {X : Type 0} → ((N → Locs) → (A → Locs) → X → Locs) → X → X → Type 0
  LocatesSame located it copy =
      (locs : N → Locs) (action_locs : A → Locs) → LocatesAlike N alike locs
      → LocatesAlike A alike_action action_locs
      → located locs action_locs copy ≡ located locs action_locs it

  -- what is declared of an action is a copy
  pub record IsActionFragmentCopy (it copy : ActionFragment N A) : Type 0 where
    pub body : DeclaresSame (λ refer. action_fragment_body N refer A) it copy
    pub locs : LocatesSame (λ locs. action_fragment_locs N locs A) it copy

  -- an action is a copy of another
  pub record IsActionDefCopy (it copy : ActionDef N A) : Type 0 where
    pub declaration : DeclaresSame (λ refer. action_fragment_declaration N refer A) it copy
    pub locs : LocatesSame (λ locs. action_def_locs N locs A) it copy

  -- the actions of a definition are copies, in their order
  pub record IsActionsDefCopy (it copy : ActionsDef N A) : Type 0 where
    pub declarations : DeclaresSame (λ refer. action_fragment_declarations N refer A) it copy
    pub locs : LocatesSame (λ locs. actions_locs N locs A) it copy

  -- the definition of a namespace is a copy of another, for the same namespace at the same location
  pub record IsNamespaceDefCopy (it copy : ValidatorNamespaceDef N A) : Type 0 where
    pub declarations : DeclaresSame (λ refer. definition_declarations N refer A) it copy
    pub locs : LocatesSame (λ locs. definition_locs N locs A) it copy
    pub name : definition_name N A copy ≡ definition_name N A it
    pub loc : definition_loc N A copy ≡ definition_loc N A it
    pub common_types : definition_common_names N A copy ≡ definition_common_names N A it

  -- a fragment declares the same as another
  abbrev pub SameDeclarations : ValidatorSchemaFragment N A → ValidatorSchemaFragment N A → Type 0
  SameDeclarations it copy = DeclaresSame (λ refer. fragment_declarations N refer A) it copy

  -- a fragment is a copy of another: it declares the same, in each of its definitions too, and its
  -- namespaces and common types stand under the same names at the same locations
  pub record IsSchemaFragmentCopy (it copy : ValidatorSchemaFragment N A) : Type 0 where
    pub declarations : SameDeclarations it copy
    pub pairwise : DeclaresSame (λ refer. declarations_pairwise N refer A) it copy
    pub locs : LocatesSame (λ locs. fragment_locs N locs A) it copy
    pub namespaces : fragment_namespaces N A copy ≡ fragment_namespaces N A it
    pub named : named_namespaces N A copy ≡ named_namespaces N A it
    pub common_types : fragment_common_names N A copy ≡ fragment_common_names N A it
