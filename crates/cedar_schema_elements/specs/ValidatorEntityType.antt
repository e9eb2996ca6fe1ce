use Rattle.std.specs.Prelude.{◌≡◌, List, map, Option, None, Contains}
use Rattle.cedar_ast.specs.Words.{PlainName, type_loc, type_name}
use Rattle.cedar_ast.specs.declared.entity_type.EntityType.{EntityType}
use Rattle.cedar_ast.specs.declared.loc.Loc.{Loc}
use Rattle.cedar_schema_elements.specs.EntityTypeKind.{plain_kind, standard_attributes, standard_tags}
use Rattle.cedar_schema_elements.specs.declared.entity_type.ValidatorEntityType.{ValidatorEntityType}
use Rattle.cedar_schema_elements.specs.declared.entity_type_kind.ValidatorEntityTypeKind.{ValidatorEntityTypeKind}
use Rattle.cedar_schema_elements.specs.declared.entity_type_kind.ValidatorEntityTypeKind.TheVariants as variant
use Rattle.cedar_schema_semantics.specs.Words.{EntityTypeKind, SchemaEntityType}
use Rattle.cedar_types.specs.declared.attributes.Attributes.{Attributes}
use Rattle.cedar_types.specs.declared.types.Type.{«Type»}

-- the attributes of a kind, or these where it has none
abbrev pub kind_attributes : Attributes → ValidatorEntityTypeKind → Attributes
kind_attributes others (variant.Standard it) = standard_attributes it
kind_attributes others _ = others

-- the type of the tags of a kind
abbrev pub borrowed_tags : ValidatorEntityTypeKind → Option «Type»
borrowed_tags (variant.Standard it) = standard_tags it
borrowed_tags _ = None

-- what an entity type of a schema is, but for its descendants and its location
pub record PlainEntityType : Type 0 where
  pub name : PlainName
  pub kind : EntityTypeKind

-- an entity type as plain data
abbrev pub entity_type_of : ValidatorEntityType → PlainEntityType
entity_type_of it = record { name = type_name it.name; kind = plain_kind it.kind }

-- where the name of an entity type was written
abbrev pub name_loc : ValidatorEntityType → Option Loc
name_loc it = type_loc it.name

-- the attributes that an entity type lends, with their locations: those of a standard one, else
-- none
abbrev pub attributes_of : ValidatorEntityType → Attributes
attributes_of it = kind_attributes it.no_attributes it.kind

-- the type of the tags that an entity type lends: that of a standard one, else none
abbrev pub tags_of : ValidatorEntityType → Option «Type»
tags_of it = borrowed_tags it.kind

-- the names of the descendants, in some order
abbrev pub descendant_names : ValidatorEntityType → List PlainName
descendant_names it = map type_name it.descendants.keys

-- an entity type of a schema under its name, as plain data
abbrev pub plain_entry : EntityType × ValidatorEntityType → PlainName × SchemaEntityType
plain_entry entry = (
  type_name entry.0,
  record {
    name = (entity_type_of entry.1).name;
    kind = (entity_type_of entry.1).kind;
    descendants = descendant_names entry.1;
  },
)

-- the key of an entity type was written where its name was
abbrev pub IsLocatedAsKey : EntityType × ValidatorEntityType → Type 0
IsLocatedAsKey entry = type_loc entry.0 ≡ name_loc entry.1

-- each key was written where the name of its entity type was
abbrev pub AreLocatedAsKeys : List (EntityType × ValidatorEntityType) → Type 0
AreLocatedAsKeys entries = (entry : EntityType × ValidatorEntityType) → Contains entries entry
    → IsLocatedAsKey entry
