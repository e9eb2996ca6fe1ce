use Rattle.std.specs.Prelude.{Bool, map, string_bytes}
use Rattle.cedar_ast.specs.UnreservedId.{unreserved_id_text}
use Rattle.cedar_schema_ast.specs.Expr.{Expr, text_expr, long_expr, truth_expr, set_expr, record_expr, named, extension_expr, members_from}
use Rattle.cedar_schema_ast.specs.Reference.{Reference}
use Rattle.cedar_schema_ast.specs.declared.json_schema.reference_type.ReferenceType.{ReferenceType}
use Rattle.cedar_schema_ast.specs.declared.json_schema.reference_type.ReferenceType.TheVariants.{Common, Entity, CommonOrEntity}
use Rattle.cedar_schema_ast.specs.declared.json_schema.type_of.RecordType.{RecordType, fold-RecordType}
use Rattle.cedar_schema_ast.specs.declared.json_schema.type_of.Type.{«Type», fold-Type}
use Rattle.cedar_schema_ast.specs.declared.json_schema.type_of.Type.TheOpen as layer
use Rattle.cedar_schema_ast.specs.declared.json_schema.type_of.TypeOfAttribute.{TypeOfAttribute, fold-TypeOfAttribute}
use Rattle.cedar_schema_ast.specs.declared.json_schema.type_of.TypeVariant.{TypeVariant, fold-TypeVariant}

-- types over names of some form, where it is given what a name refers to at a place of each kind
module _ (N : Type 0) (refer : ReferenceType → N → Reference) where
  -- one layer of a type, with what its parts stand for in their places
  abbrev pub type_step : layer.Type-F N Expr Expr Expr (Bool × Expr) → Expr
  type_step (layer.Plain ty loc) = ty
  type_step (layer.CommonTypeRef name loc) = named (refer Common name)

  -- one layer of a type variant
  abbrev pub variant_step : layer.TypeVariant-F N Expr Expr Expr (Bool × Expr) → Expr
  variant_step layer.String = text_expr
  variant_step layer.Long = long_expr
  variant_step layer.Boolean = truth_expr
  variant_step (layer.Set element) = set_expr element.value
  variant_step (layer.Record attributes) = attributes
  variant_step (layer.Entity name) = named (refer Entity name)
  variant_step (layer.EntityOrCommon name) = named (refer CommonOrEntity name)
  variant_step (layer.Extension name) = extension_expr (unreserved_id_text name)

  -- one record type, with what its attributes stand for in their places
  abbrev pub record_step : layer.RecordType-F N Expr Expr Expr (Bool × Expr) → Expr
  record_step it = record_expr (members_from
      (map (λ entry. (string_bytes entry.0, entry.1)) it.attributes.entries))
      it.additional_attributes

  -- one attribute, with what its type stands for in its place
  abbrev pub attribute_step : layer.TypeOfAttribute-F N Expr Expr Expr (Bool × Expr) → Bool × Expr
  attribute_step it = (it.required, it.ty)

  -- what a type stands for
  abbrev pub type_expr : «Type» N → Expr
  type_expr = fold-Type N Expr Expr Expr
      (Bool × Expr) type_step variant_step record_step attribute_step

  -- what a type variant stands for
  abbrev pub variant_expr : TypeVariant N → Expr
  variant_expr = fold-TypeVariant N Expr Expr Expr
      (Bool × Expr) type_step variant_step record_step attribute_step

  -- what a record type stands for
  abbrev pub record_type_expr : RecordType N → Expr
  record_type_expr = fold-RecordType N Expr Expr Expr
      (Bool × Expr) type_step variant_step record_step attribute_step

  -- what an attribute stands for: whether it is required, and its type
  abbrev pub flag_and_expr : TypeOfAttribute N → Bool × Expr
  flag_and_expr = fold-TypeOfAttribute N Expr Expr Expr
      (Bool × Expr) type_step variant_step record_step attribute_step
