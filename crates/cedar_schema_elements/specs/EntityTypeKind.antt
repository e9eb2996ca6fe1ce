use Rattle.std.specs.Option.{option_map}
use Rattle.std.specs.Prelude.{◌∷◌, map, Option}
use Rattle.cedar_ast.specs.Eid.{eid_text}
use Rattle.cedar_schema_elements.specs.declared.entity_type_kind.StandardValidatorEntityType.{StandardValidatorEntityType}
use Rattle.cedar_schema_elements.specs.declared.entity_type_kind.ValidatorEntityTypeKind.{ValidatorEntityTypeKind}
use Rattle.cedar_schema_elements.specs.declared.entity_type_kind.ValidatorEntityTypeKind.TheVariants as variant
use Rattle.cedar_schema_semantics.specs.EntityTypeKind.{EntityTypeKind, standard_kind, enumerated_kind, external_kind}
use Rattle.cedar_types.specs.Meaning.{ty_of, fields_of}
use Rattle.cedar_types.specs.declared.attributes.Attributes.{Attributes}
use Rattle.cedar_types.specs.declared.types.Type.{«Type»}

-- a standard entity type as plain data
abbrev pub plain_standard : StandardValidatorEntityType → EntityTypeKind
plain_standard it = standard_kind (fields_of it.attributes) it.open_attributes
    (option_map ty_of it.tags)

-- a kind as plain data
abbrev pub plain_kind : ValidatorEntityTypeKind → EntityTypeKind
plain_kind (variant.Standard it) = plain_standard it
plain_kind (variant.Enum choices) =
    enumerated_kind (map eid_text (choices.head ∷ choices.tail.items))
plain_kind variant.External = external_kind

-- the attributes of a standard entity type, with their locations
abbrev pub standard_attributes : StandardValidatorEntityType → Attributes
standard_attributes it = it.attributes

-- the type of the tags of a standard entity type
abbrev pub standard_tags : StandardValidatorEntityType → Option «Type»
standard_tags it = it.tags
