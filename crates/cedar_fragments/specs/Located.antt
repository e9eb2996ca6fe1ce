use Rattle.std.specs.List.{flat_map}
use Rattle.std.specs.Option.{option_map}
use Rattle.std.specs.Prelude.{List, [], ◌∷◌, map, Option, None, Some}
use Rattle.cedar_ast.specs.Words.{PlainName, name_loc, name_of, plain_loc, plain_name}
use Rattle.cedar_ast.specs.declared.internal_name.InternalName.{InternalName}
use Rattle.cedar_ast.specs.declared.loc.Loc.{Loc}
use Rattle.cedar_ast.specs.declared.name.Name.{Name}
use Rattle.cedar_fragments.specs.declared.namespace.action_def.ActionDef.{ActionDef}
use Rattle.cedar_fragments.specs.declared.namespace.actions.ActionsDef.{ActionsDef}
use Rattle.cedar_fragments.specs.declared.namespace.common_types.CommonTypeDef.{CommonTypeDef}
use Rattle.cedar_fragments.specs.declared.namespace.common_types.CommonTypeDefs.{CommonTypeDefs}
use Rattle.cedar_fragments.specs.declared.namespace.definition.ValidatorNamespaceDef.{ValidatorNamespaceDef}
use Rattle.cedar_fragments.specs.declared.namespace.entity_type_def.EntityTypeDef.{EntityTypeDef}
use Rattle.cedar_fragments.specs.declared.namespace.entity_types.EntityTypesDef.{EntityTypesDef}
use Rattle.cedar_fragments.specs.declared.namespace.fragment.ValidatorSchemaFragment.{ValidatorSchemaFragment}
use Rattle.cedar_schema_ast.specs.Words.{common_type_text, name_within}
use Rattle.cedar_schema_ast.specs.declared.json_schema.common_type_id.CommonTypeId.{CommonTypeId}
use Rattle.cedar_schema_ast.specs.declared.json_schema.fragment.CommonType.{CommonType}
use Rattle.cedar_schema_ast.specs.declared.json_schema.fragment.Fragment.{Fragment}
use Rattle.cedar_schema_ast.specs.declared.json_schema.fragment.NamespaceDefinition.{NamespaceDefinition}
use Rattle.cedar_schema_ast.specs.declared.json_schema.raw_name.RawName.{RawName}

-- a name, with where what it names was declared or, of a namespace's name, where it was written
pub record LocatedName : Type 0 where
  pub name : PlainName
  pub loc : Option Loc

-- a namespace that has a name: where its name was written, and where it was defined
pub record DefinedNamespace : Type 0 where
  pub name : PlainName
  pub name_loc : Option Loc
  pub def_loc : Option Loc

-- a name with its location
abbrev pub located_name : InternalName → LocatedName
located_name name = record { name = name_of name; loc = name_loc name }

-- a name that isn't reserved, with its location
abbrev pub located_plain_name : Name → LocatedName
located_plain_name name = record { name = plain_name name; loc = plain_loc name }

-- the namespace of a definition at a location; the empty namespace, which has no name, isn't among
-- these
abbrev pub named_namespace : Option LocatedName → Option Loc → List DefinedNamespace
named_namespace None loc = []
named_namespace (Some at) loc = record { name = at.name; name_loc = at.loc; def_loc = loc } ∷ []

-- the full names of some common types, each with where it was declared
abbrev pub located_common_names : (N : Type 0) → List (CommonTypeDef N) → List LocatedName
located_common_names N defs = map (λ def. located_name def.name) defs

-- the common types, in order
abbrev pub common_type_defs : (N : Type 0) → CommonTypeDefs N → List (CommonTypeDef N)
common_type_defs N it = it.defs.items

-- the entity types, in order
abbrev pub entity_type_defs : (N : Type 0) → EntityTypesDef N → List (EntityTypeDef N)
entity_type_defs N it = it.defs.items

-- the actions, in order
abbrev pub action_defs : (N A : Type 0) → ActionsDef N A → List (ActionDef N A)
action_defs N A it = it.defs.items

module _ (N A : Type 0) where
  -- the name of a definition's namespace, with where it was written; None is the empty namespace
  abbrev pub definition_name : ValidatorNamespaceDef N A → Option LocatedName
  definition_name it = option_map located_name it.namespace

  -- where the namespace was defined
  abbrev pub definition_loc : ValidatorNamespaceDef N A → Option Loc
  definition_loc it = it.loc

  -- the common types of a definition, in order
  abbrev pub definition_common_types : ValidatorNamespaceDef N A → List (CommonTypeDef N)
  definition_common_types it = common_type_defs N it.common_types

  -- the definitions of a fragment, in order
  abbrev pub fragment_definitions : ValidatorSchemaFragment N A → List (ValidatorNamespaceDef N A)
  fragment_definitions it = it.definitions.items

  -- the full names of the common types of a definition, each with where it was declared
  abbrev pub definition_common_names : ValidatorNamespaceDef N A → List LocatedName
  definition_common_names it = located_common_names N (definition_common_types it)

  -- the namespace of a definition, if it has a name
  abbrev pub definition_namespaces : ValidatorNamespaceDef N A → List DefinedNamespace
  definition_namespaces it = named_namespace (definition_name it) (definition_loc it)

  -- the full names of the common types of a fragment, each with where it was declared
  abbrev pub fragment_common_names : ValidatorSchemaFragment N A → List LocatedName
  fragment_common_names it = flat_map definition_common_names (fragment_definitions it)

  -- the namespaces of the definitions of a fragment that have a name, one for each definition
  abbrev pub named_namespaces : ValidatorSchemaFragment N A → List DefinedNamespace
  named_namespaces it = flat_map definition_namespaces (fragment_definitions it)

-- the full names of common types that are written in a namespace, each with where it was declared
abbrev pub written_common_names : Option PlainName → List (CommonTypeId × CommonType RawName)
    → List LocatedName
written_common_names namespace entries =
    map (λ entry. record {
      name = name_within namespace (common_type_text entry.0);
      loc = entry.1.loc;
    }) entries

-- the same of a definition of a fragment
abbrev pub entry_common_names : Option Name × NamespaceDefinition RawName → List LocatedName
entry_common_names entry = written_common_names
    (option_map plain_name entry.0) entry.1.common_types.entries

-- the namespace of a definition of a fragment, if it has a name
abbrev pub entry_namespaces : Option Name × NamespaceDefinition RawName → List DefinedNamespace
entry_namespaces entry = named_namespace (option_map located_plain_name entry.0) entry.1.loc

-- the full names of the common types of a fragment as it is written, each with where it was
-- declared
abbrev pub raw_common_names : Fragment RawName → List LocatedName
raw_common_names fragment = flat_map entry_common_names fragment.0.entries

-- the namespaces that a fragment as it is written defines and that have a name, one for each
-- definition
abbrev pub raw_namespaces : Fragment RawName → List DefinedNamespace
raw_namespaces fragment = flat_map entry_namespaces fragment.0.entries
