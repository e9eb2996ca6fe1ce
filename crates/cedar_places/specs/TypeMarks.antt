-- What the types of a fragment hold whose places are listed.
use Rattle.std.specs.List.{flat_map}
use Rattle.std.specs.Prelude.{[], ◌∷◌, ◌++◌, Option, cond}
use Rattle.cedar_ast.specs.UnreservedId.{unreserved_id_text}
use Rattle.cedar_ast.specs.declared.loc.Loc.{Loc}
use Rattle.cedar_places.specs.Mark.{Marks, open_record, extension_type}
use Rattle.cedar_schema_ast.specs.declared.json_schema.raw_name.RawName.{RawName}
use Rattle.cedar_schema_ast.specs.declared.json_schema.type_of.RecordType.{RecordType, fold-RecordType}
use Rattle.cedar_schema_ast.specs.declared.json_schema.type_of.Type.{«Type», fold-Type}
use Rattle.cedar_schema_ast.specs.declared.json_schema.type_of.Type.TheOpen as layer
use Rattle.cedar_schema_ast.specs.declared.json_schema.type_of.TypeOfAttribute.{TypeOfAttribute, fold-TypeOfAttribute}
use Rattle.cedar_schema_ast.specs.declared.json_schema.type_of.TypeVariant.{TypeVariant, fold-TypeVariant}

-- what is listed of something that was written at a place
abbrev pub MarksAt : Type 0
MarksAt = Option Loc → Marks

-- one layer of a type, with what is listed of its parts in their places: a type variant was written
-- where the type was
abbrev pub type_marks_step : layer.Type-F RawName Marks MarksAt MarksAt Marks → Marks
type_marks_step (layer.Plain ty loc) = ty loc
type_marks_step (layer.CommonTypeRef name loc) = []

-- one layer of a type variant
abbrev pub variant_marks_step : layer.TypeVariant-F RawName Marks MarksAt MarksAt Marks → MarksAt
variant_marks_step layer.String loc = []
variant_marks_step layer.Long loc = []
variant_marks_step layer.Boolean loc = []
variant_marks_step (layer.Set element) loc = element.value
variant_marks_step (layer.Record attributes) loc = attributes loc
variant_marks_step (layer.Entity name) loc = []
variant_marks_step (layer.EntityOrCommon name) loc = []
variant_marks_step (layer.Extension name) loc = (extension_type (unreserved_id_text name), loc) ∷ []

-- one record type: itself where it is open, then what is in its attributes, in their order
abbrev pub record_marks_step : layer.RecordType-F RawName Marks MarksAt MarksAt Marks → MarksAt
record_marks_step it loc =
    cond it.additional_attributes ((open_record, loc) ∷ []) []
    ++ flat_map (λ entry. entry.1) it.attributes.entries

-- one attribute: what is in its type
abbrev pub attribute_marks_step :
    layer.TypeOfAttribute-F RawName Marks MarksAt MarksAt Marks → Marks
attribute_marks_step it = it.ty

-- the open record types and the extension types in a type
abbrev pub type_marks : «Type» RawName → Marks
type_marks =
    fold-Type RawName Marks MarksAt MarksAt Marks type_marks_step variant_marks_step
    record_marks_step attribute_marks_step

-- those in a type variant that was written at a place
abbrev pub variant_marks : TypeVariant RawName → MarksAt
variant_marks =
    fold-TypeVariant RawName Marks MarksAt MarksAt Marks type_marks_step variant_marks_step
    record_marks_step attribute_marks_step

-- those in a record type that was written at a place
abbrev pub record_marks : RecordType RawName → MarksAt
record_marks =
    fold-RecordType RawName Marks MarksAt MarksAt Marks type_marks_step variant_marks_step
    record_marks_step attribute_marks_step

-- those in an attribute
abbrev pub attribute_marks : TypeOfAttribute RawName → Marks
attribute_marks =
    fold-TypeOfAttribute RawName Marks MarksAt MarksAt Marks type_marks_step variant_marks_step
    record_marks_step attribute_marks_step
