-- The names that fragments declare.
use Rattle.std.specs.Prelude.{List, map}
use Rattle.cedar_ast.specs.Words.{PlainName, PlainUid, name_of, type_name, uid_of}
use Rattle.cedar_fragments.specs.declared.namespace.actions.ActionsDef.{ActionsDef}
use Rattle.cedar_fragments.specs.declared.namespace.common_types.CommonTypeDefs.{CommonTypeDefs}
use Rattle.cedar_fragments.specs.declared.namespace.definition.ValidatorNamespaceDef.{ValidatorNamespaceDef}
use Rattle.cedar_fragments.specs.declared.namespace.entity_types.EntityTypesDef.{EntityTypesDef}
use Rattle.cedar_fragments.specs.declared.namespace.fragment.ValidatorSchemaFragment.{ValidatorSchemaFragment}
use Rattle.cedar_name_resolution.specs.HeldNames.{names_together}
use Rattle.cedar_schema_semantics.specs.Words.{Names}

-- the names of some common types
abbrev pub common_type_names : (N : Type 0) → CommonTypeDefs N → List PlainName
common_type_names N it = map (λ def. name_of def.name) it.defs.items

-- the names of some entity types
abbrev pub entity_type_names : (N : Type 0) → EntityTypesDef N → List PlainName
entity_type_names N it = map (λ def. type_name def.name) it.defs.items

-- the uids of some actions
abbrev pub uids_of_actions : (N A : Type 0) → ActionsDef N A → List PlainUid
uids_of_actions N A it = map (λ def. uid_of def.uid) it.defs.items

-- over names of some form, and names of the types of actions of another
module _ (N A : Type 0) where
  -- the names that a definition itself declares: no types of actions, no built-in types and no
  -- aliases
  abbrev pub definition_names : ValidatorNamespaceDef N A → Names
  definition_names it = record {
    common = common_type_names N it.common_types;
    entities = entity_type_names N it.entity_types;
    actions = uids_of_actions N A it.actions;
  }

  -- the names that some definitions themselves declare
  abbrev pub names_of_definitions : List (ValidatorNamespaceDef N A) → Names
  names_of_definitions = names_together definition_names

  -- the names that a fragment itself declares
  abbrev pub fragment_names : ValidatorSchemaFragment N A → Names
  fragment_names it = names_of_definitions it.definitions.items

  -- the names that some fragments themselves declare
  abbrev pub declared_names : List (ValidatorSchemaFragment N A) → Names
  declared_names = names_together fragment_names
