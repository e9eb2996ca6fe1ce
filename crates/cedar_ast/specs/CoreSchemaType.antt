use Rattle.std.specs.BTreeMap.{BTreeMap}
use Rattle.std.specs.Option.{option_map}
use Rattle.std.specs.Prelude.{Bool, List, map, Option, string_bytes}
use Rattle.std.specs.declared.alloc.Global.{Global}
use Rattle.std.specs.declared.string.String.{String}
use Rattle.cedar_ast.specs.CoreTy.{CoreTy, CoreFields, core_truth, core_long, core_text, core_set, core_empty_set, core_record, core_entity, core_extension, core_fields_from}
use Rattle.cedar_ast.specs.EntityType.{type_name}
use Rattle.cedar_ast.specs.Name.{plain_name}
use Rattle.cedar_ast.specs.declared.core_schema_type.CoreAttributeType.{CoreAttributeType, fold-CoreAttributeType}
use Rattle.cedar_ast.specs.declared.core_schema_type.CoreSchemaType.{CoreSchemaType, fold-CoreSchemaType}
use Rattle.cedar_ast.specs.declared.core_schema_type.CoreSchemaType.TheOpen as layer
use Rattle.cedar_ast.specs.declared.extension.ExtensionFunction.{ExtensionFunction}

-- one layer of a core type, with what its parts stand for in their places
abbrev pub core_step : layer.CoreSchemaType-F CoreTy (Bool × CoreTy) → CoreTy
core_step layer.Bool = core_truth
core_step layer.Long = core_long
core_step layer.String = core_text
core_step (layer.Set element) = core_set element.value
core_step layer.EmptySet = core_empty_set
core_step (layer.Record attrs open_attrs) =
    core_record (core_fields_from (map (λ entry.
    (string_bytes entry.0, entry.1)) attrs.entries)) open_attrs
core_step (layer.Entity ty) = core_entity (type_name ty)
core_step (layer.Extension name) = core_extension (plain_name name)

-- one attribute, with what its type stands for in its place
abbrev pub core_attribute_step : layer.CoreAttributeType-F CoreTy (Bool × CoreTy) → Bool × CoreTy
core_attribute_step attribute = (attribute.required, attribute.attr_type)

-- what a core type stands for
abbrev pub core_ty_of : CoreSchemaType → CoreTy
core_ty_of = fold-CoreSchemaType CoreTy (Bool × CoreTy) core_step core_attribute_step

-- what an attribute of a core type stands for: whether it is required, and its type
abbrev pub core_attribute_of : CoreAttributeType → Bool × CoreTy
core_attribute_of = fold-CoreAttributeType CoreTy (Bool × CoreTy) core_step core_attribute_step

-- the types of a function's arguments
abbrev pub argument_types : ExtensionFunction → List CoreTy
argument_types function = map core_ty_of function.arg_types.items

-- the type of a function's results, where it is fixed
abbrev pub result_type : ExtensionFunction → Option CoreTy
result_type function = option_map core_ty_of function.return_type

-- what the attributes of a core record type stand for
abbrev pub core_fields_of : BTreeMap (String Global) CoreAttributeType → CoreFields
core_fields_of attrs =
    core_fields_from (map (λ entry.
    (string_bytes entry.0, core_attribute_of entry.1)) attrs.entries)
