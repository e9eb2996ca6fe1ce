use Rattle.std.specs.List.{flat_map}
use Rattle.std.specs.Option.{option_map}
use Rattle.std.specs.Prelude.{List, ◌++◌, Option}
use Rattle.cedar_ast.specs.Words.{PlainName, name_of, type_name}
use Rattle.cedar_ast.specs.declared.entity_type.EntityType.{EntityType}
use Rattle.cedar_ast.specs.declared.internal_name.InternalName.{InternalName}
use Rattle.cedar_fragments.specs.ActionDeclarations.{action_fragment_declarations}
use Rattle.cedar_fragments.specs.TypeDeclarations.{common_type_declarations, entity_type_declarations}
use Rattle.cedar_fragments.specs.declared.namespace.definition.ValidatorNamespaceDef.{ValidatorNamespaceDef}
use Rattle.cedar_fragments.specs.declared.namespace.fragment.ValidatorSchemaFragment.{ValidatorSchemaFragment}
use Rattle.cedar_schema_ast.specs.Words.{Reference, positional_reference}
use Rattle.cedar_schema_ast.specs.declared.json_schema.conditional_name.ConditionalName.{ConditionalName}
use Rattle.cedar_schema_ast.specs.declared.json_schema.reference_type.ReferenceType.{ReferenceType}
use Rattle.cedar_schema_semantics.specs.Words.{Bag, reference_to_one, resolved_reference}

-- over names of some form, and names of the types of actions of another
module _ (N : Type 0) (refer : ReferenceType → N → Reference) (A : Type 0)
    (refer_action : ReferenceType → A → Reference) where
  -- the declarations of a namespace's definition: its common types, its entity types and its
  -- actions
  abbrev pub definition_declarations : ValidatorNamespaceDef N A → Bag
  definition_declarations it =
      common_type_declarations N refer it.common_types
      ++ entity_type_declarations N refer it.entity_types
      ++ action_fragment_declarations N refer A refer_action it.actions

  -- the declarations of a fragment: those of its definitions in turn
  abbrev pub fragment_declarations : ValidatorSchemaFragment N A → Bag
  fragment_declarations it = flat_map definition_declarations it.definitions.items

-- the namespace of a definition, None being the empty one
abbrev pub definition_namespace : (N A : Type 0) → ValidatorNamespaceDef N A → Option PlainName
definition_namespace N A it = option_map name_of it.namespace

-- over names of some form, where it is given what a name refers to that is written in a namespace
module _ (N : Type 0) (refer : Option PlainName → ReferenceType → N → Reference) where
  -- the declarations of a definition, whose names are written in its own namespace
  abbrev pub written_definition : ValidatorNamespaceDef N N → Bag
  written_definition it =
      definition_declarations N (refer (definition_namespace N N it)) N
      (refer (definition_namespace N N it)) it

  -- the declarations of a fragment: those of its definitions in turn
  abbrev pub written_fragment : ValidatorSchemaFragment N N → Bag
  written_fragment it = flat_map written_definition it.definitions.items

  -- the bag of declarations of some fragments
  abbrev pub written_bag : List (ValidatorSchemaFragment N N) → Bag
  written_bag fragments = flat_map written_fragment fragments

-- the declarations of a definition over conditional names
abbrev pub conditional_definition : ValidatorNamespaceDef ConditionalName ConditionalName → Bag
conditional_definition =
    definition_declarations ConditionalName positional_reference ConditionalName
    positional_reference

-- the declarations of a fragment over conditional names
abbrev pub conditional_fragment : ValidatorSchemaFragment ConditionalName ConditionalName → Bag
conditional_fragment =
    fragment_declarations ConditionalName positional_reference ConditionalName positional_reference

-- the bag of declarations of some fragments over conditional names
abbrev pub conditional_bag : List (ValidatorSchemaFragment ConditionalName ConditionalName) → Bag
conditional_bag fragments = flat_map conditional_fragment fragments

-- what the type of an action's parent refers to that is resolved: what is defined under it alone
abbrev pub resolved_action_type : ReferenceType → EntityType → Reference
resolved_action_type kind ty = reference_to_one kind (type_name ty)

-- the declarations of a definition over full names
abbrev pub resolved_definition : ValidatorNamespaceDef InternalName EntityType → Bag
resolved_definition =
    definition_declarations InternalName resolved_reference EntityType resolved_action_type

-- the declarations of a fragment over full names
abbrev pub resolved_fragment : ValidatorSchemaFragment InternalName EntityType → Bag
resolved_fragment =
    fragment_declarations InternalName resolved_reference EntityType resolved_action_type
