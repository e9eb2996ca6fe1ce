use Rattle.std.specs.Prelude.{Bool, map, Option, Some, None, string_bytes}
use Rattle.cedar_ast.specs.Name.{plain_name}
use Rattle.cedar_ast.specs.declared.loc.Loc.{Loc}
use Rattle.cedar_type_rules.specs.Ty.{Ty, never, truth, long, text, any_set, set_of, record_of, extension_of, Fields, fields_from}
use Rattle.cedar_types.specs.EntityKind.{kind_ty}
use Rattle.cedar_types.specs.declared.attributes.AttributeType.{AttributeType, fold-AttributeType, out-AttributeType}
use Rattle.cedar_types.specs.declared.attributes.Attributes.{Attributes, fold-Attributes}
use Rattle.cedar_types.specs.declared.types.Type.{«Type», fold-Type}
use Rattle.cedar_types.specs.declared.types.Type.TheOpen as layer

-- one layer of a type, with what its parts stand for in their places
abbrev pub type_step : layer.Type-F Ty (Bool × Ty) Fields → Ty
type_step layer.Never = never
type_step (layer.Bool known) = truth known
type_step layer.Long = long
type_step layer.String = text
type_step (layer.Entity of) = kind_ty of
type_step (layer.Set None) = any_set
type_step (layer.Set (Some element)) = set_of element.value
type_step (layer.Record fields openness) = record_of fields openness
type_step (layer.ExtensionType name) = extension_of (plain_name name)

-- one attribute, with what its type stands for in its place
abbrev pub attribute_step : layer.AttributeType-F Ty (Bool × Ty) Fields → Bool × Ty
attribute_step attribute = (attribute.is_required, attribute.attr_type.value)

-- the attributes of a record, with what each stands for in its place
abbrev pub attributes_step : layer.Attributes-F Ty (Bool × Ty) Fields → Fields
attributes_step attributes = fields_from
    (map (λ entry. (string_bytes entry.0, entry.1)) attributes.attrs.value.entries.items)

-- what a type stands for
abbrev pub ty_of : «Type» → Ty
ty_of = fold-Type Ty (Bool × Ty) Fields type_step attribute_step attributes_step

-- what an attribute stands for: whether it is required, and its type
abbrev pub attribute_of : AttributeType → Bool × Ty
attribute_of = fold-AttributeType Ty (Bool × Ty) Fields type_step attribute_step attributes_step

-- what the attributes of a record stand for
abbrev pub fields_of : Attributes → Fields
fields_of = fold-Attributes Ty (Bool × Ty) Fields type_step attribute_step attributes_step

-- where an attribute was declared
abbrev pub attribute_loc : AttributeType → Option Loc
attribute_loc attribute = (out-AttributeType attribute).loc
