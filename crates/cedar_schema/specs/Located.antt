use Rattle.std.specs.List.{filter, flat_map}
use Rattle.std.specs.Prelude.{◌≡◌, ◌∷◌, List, map}
use Rattle.cedar_ast.specs.declared.internal_name.InternalName.{InternalName}
use Rattle.cedar_fragments.specs.Located.{DefinedNamespace, LocatedName, fragment_common_names, named_namespaces, raw_common_names, raw_namespaces}
use Rattle.cedar_fragments.specs.declared.namespace.fragment.ValidatorSchemaFragment.{ValidatorSchemaFragment}
use Rattle.cedar_schema.specs.ShownCommonTypes.{common_types_to_show, fragment_common_types, is_shown, shown_common_type, shown_name, with_base}
use Rattle.cedar_schema.specs.ShownNamespaces.{HoldsNamespaces, built_in_namespace}
use Rattle.cedar_schema.specs.declared.collecting.Located.{Located}
use Rattle.cedar_schema.specs.declared.located_common_type.LocatedCommonType.{LocatedCommonType}
use Rattle.cedar_schema.specs.declared.located_namespace.LocatedNamespace.{LocatedNamespace}
use Rattle.cedar_schema_ast.specs.declared.json_schema.conditional_name.ConditionalName.{ConditionalName}
use Rattle.cedar_schema_ast.specs.declared.json_schema.fragment.Fragment.{Fragment}
use Rattle.cedar_schema_ast.specs.declared.json_schema.raw_name.RawName.{RawName}

-- the common types that are shown, in order
abbrev pub common_entries : Located → List LocatedCommonType
common_entries it = it.common_types.items

-- the namespaces that are shown, each under its full name, in the order of the names
abbrev pub namespace_entries : Located → List (InternalName × LocatedNamespace)
namespace_entries it = it.namespaces.entries

-- what is shown where common types of these names are declared and these namespaces are defined: of
-- the common types those whose declaration has a location and whose base name is none of a
-- primitive type, in order; of the namespaces each name once, with the locations of its last
-- definition, and that of the built-in types
pub record Shows (names : List LocatedName) (defined : List DefinedNamespace)
    (it : Located) : Type 0 where
  pub common_types : map shown_name (common_entries it) ≡ map with_base (filter is_shown names)
  pub namespaces : HoldsNamespaces (built_in_namespace ∷ defined) it.namespaces

-- what is shown of fragments over names of some form, and names of the types of actions of another,
-- and where the types of the common types were written
pub record AreShown (N A : Type 0) (fragments : List (ValidatorSchemaFragment N A))
    (it : Located) : Type 0 where
  pub shown : Shows (flat_map (fragment_common_names N A) fragments)
      (flat_map (named_namespaces N A) fragments) it
  pub types : map shown_common_type (common_entries it)
      ≡ common_types_to_show N (flat_map (fragment_common_types N A) fragments)

-- what is shown of fragments over conditional names
abbrev pub ShowsFragments : List (ValidatorSchemaFragment ConditionalName ConditionalName)
    → Located → Type 0
ShowsFragments = AreShown ConditionalName ConditionalName

-- what is shown of fragments as they are written
abbrev pub ShowsWritten : List (Fragment RawName) → Located → Type 0
ShowsWritten fragments = Shows (flat_map raw_common_names fragments)
    (flat_map raw_namespaces fragments)
