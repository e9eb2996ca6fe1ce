use Rattle.std.specs.List.{filter, flat_map, list_any}
use Rattle.std.specs.Option.{is_some}
use Rattle.std.specs.Prelude.{Bool, ◌&&◌, not, List, map, Option, string_bytes}
use Rattle.std.specs.Str.{bytes_eq}
use Rattle.cedar_ast.specs.Words.{Text, name_of, primitive_words}
use Rattle.cedar_ast.specs.declared.loc.Loc.{Loc}
use Rattle.cedar_fragments.specs.Located.{LocatedName, definition_common_types, fragment_definitions, located_name}
use Rattle.cedar_fragments.specs.declared.namespace.common_types.CommonTypeDef.{CommonTypeDef}
use Rattle.cedar_fragments.specs.declared.namespace.fragment.ValidatorSchemaFragment.{ValidatorSchemaFragment}
use Rattle.cedar_schema.specs.TypeLocations.{location_of_type}
use Rattle.cedar_schema.specs.declared.located_common_type.LocatedCommonType.{LocatedCommonType}

-- a common type as a schema shows it: its base name, its full name with where it was declared, and
-- where its type was written
pub record ShownCommonType : Type 0 where
  pub base : Text
  pub at : LocatedName
  pub type_loc : Option Loc

-- a common type of a schema as it is shown
abbrev pub shown_common_type : LocatedCommonType → ShownCommonType
shown_common_type it = record {
  base = string_bytes it.name;
  at = record { name = name_of it.full_name; loc = it.name_loc };
  type_loc = it.type_loc;
}

-- the base name of a common type of a schema, and its full name with where it was declared
abbrev pub shown_name : LocatedCommonType → Text × LocatedName
shown_name it = ((shown_common_type it).base, (shown_common_type it).at)

-- the base name of a full name, and the full name itself
abbrev pub with_base : LocatedName → Text × LocatedName
with_base it = (it.name.base, it)

-- a common type is shown if it is known where it was declared and its base name is none of a
-- primitive type
abbrev pub is_shown : LocatedName → Bool
is_shown it = is_some it.loc && not (list_any (bytes_eq it.name.base) primitive_words)

module _ (N : Type 0) where
  -- a common type that is declared, as it is to be shown
  abbrev pub declared_common_type : CommonTypeDef N → ShownCommonType
  declared_common_type def = record {
    base = (name_of def.name).base;
    at = located_name def.name;
    type_loc = location_of_type N def.ty;
  }

  -- those of some common types that are shown, in order
  abbrev pub common_types_to_show : List (CommonTypeDef N) → List ShownCommonType
  common_types_to_show defs = map declared_common_type
      (filter (λ def. is_shown (located_name def.name)) defs)

module _ (N A : Type 0) where
  -- those of a fragment
  abbrev pub fragment_common_types : ValidatorSchemaFragment N A → List (CommonTypeDef N)
  fragment_common_types it = flat_map (definition_common_types N A) (fragment_definitions N A it)
