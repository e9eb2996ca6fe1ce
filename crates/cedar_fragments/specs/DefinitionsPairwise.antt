use Rattle.std.specs.Option.{option_map}
use Rattle.std.specs.Prelude.{List, map, Option}
use Rattle.cedar_ast.specs.Name.{plain_name}
use Rattle.cedar_ast.specs.PlainName.{PlainName}
use Rattle.cedar_ast.specs.declared.entity_type.EntityType.{EntityType}
use Rattle.cedar_ast.specs.declared.internal_name.InternalName.{InternalName}
use Rattle.cedar_ast.specs.declared.loc.Loc.{Loc}
use Rattle.cedar_ast.specs.declared.name.Name.{Name}
use Rattle.cedar_fragments.specs.FragmentDeclarations.{definition_declarations, resolved_action_type, written_definition}
use Rattle.cedar_fragments.specs.FragmentLocs.{definition_locs, no_locs}
use Rattle.cedar_fragments.specs.Located.{LocatedName, definition_loc, definition_name, fragment_definitions, located_plain_name}
use Rattle.cedar_fragments.specs.declared.namespace.definition.ValidatorNamespaceDef.{ValidatorNamespaceDef}
use Rattle.cedar_fragments.specs.declared.namespace.fragment.ValidatorSchemaFragment.{ValidatorSchemaFragment}
use Rattle.cedar_schema_ast.specs.Words.{Locs, Reference, positional_reference, raw_declarations}
use Rattle.cedar_schema_ast.specs.declared.json_schema.conditional_name.ConditionalName.{ConditionalName}
use Rattle.cedar_schema_ast.specs.declared.json_schema.fragment.Fragment.{Fragment}
use Rattle.cedar_schema_ast.specs.declared.json_schema.fragment.NamespaceDefinition.{NamespaceDefinition}
use Rattle.cedar_schema_ast.specs.declared.json_schema.raw_name.RawName.{RawName}
use Rattle.cedar_schema_ast.specs.declared.json_schema.reference_type.ReferenceType.{ReferenceType}
use Rattle.cedar_schema_semantics.specs.Words.{Bag, resolved_reference}

-- the declarations of each definition of a fragment, one bag for each in order, be it empty
abbrev pub declarations_pairwise : (N : Type 0) (refer : ReferenceType → N → Reference) (A : Type 0)
    (refer_action : ReferenceType → A → Reference) → ValidatorSchemaFragment N A → List Bag
declarations_pairwise N refer A refer_action it =
    map (definition_declarations N refer A refer_action) (fragment_definitions N A it)

-- the same of a fragment whose names are written in the namespaces of their definitions
abbrev pub written_pairwise : (N : Type 0)
    (refer : Option PlainName → ReferenceType → N → Reference) → ValidatorSchemaFragment N N
    → List Bag
written_pairwise N refer it = map (written_definition N refer) (fragment_definitions N N it)

-- the same of a fragment over conditional names
abbrev pub conditional_pairwise : ValidatorSchemaFragment ConditionalName ConditionalName → List Bag
conditional_pairwise =
    declarations_pairwise ConditionalName positional_reference ConditionalName positional_reference

-- the same of a fragment over full names
abbrev pub resolved_in_turn : ValidatorSchemaFragment InternalName EntityType → List Bag
resolved_in_turn =
    declarations_pairwise InternalName resolved_reference EntityType resolved_action_type

-- the declarations of a definition of a fragment as it is written
abbrev pub entry_declarations : Option Name × NamespaceDefinition RawName → Bag
entry_declarations entry = raw_declarations (option_map plain_name entry.0) entry.1

-- the same as the first of a fragment as it is written
abbrev pub raw_pairwise : Fragment RawName → List Bag
raw_pairwise fragment = map entry_declarations fragment.0.entries

-- a namespace: its name with where it was written, None being the empty namespace, and where it was
-- defined
pub record LocatedNamespace : Type 0 where
  pub name : Option LocatedName
  pub def_loc : Option Loc

module _ (N A : Type 0) where
  -- the namespace of a definition
  abbrev pub located_namespace : ValidatorNamespaceDef N A → LocatedNamespace
  located_namespace it = record { name = definition_name N A it; def_loc = definition_loc N A it }

  -- the namespaces of the definitions of a fragment, one for each in order
  abbrev pub located_namespaces : ValidatorSchemaFragment N A → List LocatedNamespace
  located_namespaces it = map located_namespace (fragment_definitions N A it)

-- the locations in what each definition of a fragment declares, but for those in the names of
-- references, one list for each in order
abbrev pub locs_pairwise : (N A : Type 0) → ValidatorSchemaFragment N A → List Locs
locs_pairwise N A it = map (definition_locs N no_locs A no_locs) (fragment_definitions N A it)

-- the namespace of a definition of a fragment as it is written
abbrev pub entry_namespace : Option Name × NamespaceDefinition RawName → LocatedNamespace
entry_namespace entry = record
    { name = option_map located_plain_name entry.0; def_loc = entry.1.loc }

-- the namespaces of the definitions of a fragment as it is written, one for each in order
abbrev pub raw_located_namespaces : Fragment RawName → List LocatedNamespace
raw_located_namespaces fragment = map entry_namespace fragment.0.entries
