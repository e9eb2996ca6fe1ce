use Rattle.std.specs.Prelude.{Bool, Option}
use Rattle.cedar_ast.specs.PlainName.{PlainName}
use Rattle.cedar_schema_ast.specs.Expr.{Expr}
use Rattle.cedar_schema_ast.specs.RawName.{raw_name}
use Rattle.cedar_schema_ast.specs.Reference.{Reference, reference_to}
use Rattle.cedar_schema_ast.specs.TypeExpr.{type_expr, variant_expr, record_type_expr, flag_and_expr}
use Rattle.cedar_schema_ast.specs.declared.json_schema.raw_name.RawName.{RawName}
use Rattle.cedar_schema_ast.specs.declared.json_schema.reference_type.ReferenceType.{ReferenceType}
use Rattle.cedar_schema_ast.specs.declared.json_schema.type_of.RecordType.{RecordType}
use Rattle.cedar_schema_ast.specs.declared.json_schema.type_of.Type.{«Type»}
use Rattle.cedar_schema_ast.specs.declared.json_schema.type_of.TypeOfAttribute.{TypeOfAttribute}
use Rattle.cedar_schema_ast.specs.declared.json_schema.type_of.TypeVariant.{TypeVariant}

module _ (namespace : Option PlainName) where
  -- what a name refers to that is written in the namespace
  abbrev pub raw_reference : ReferenceType → RawName → Reference
  raw_reference kind name = reference_to namespace kind (raw_name name)

  -- what a type stands for that is written in the namespace
  abbrev pub raw_expr : «Type» RawName → Expr
  raw_expr = type_expr RawName raw_reference

  -- what a type variant stands for in the namespace
  abbrev pub raw_variant : TypeVariant RawName → Expr
  raw_variant = variant_expr RawName raw_reference

  -- what a record type stands for that is written in the namespace
  abbrev pub raw_record : RecordType RawName → Expr
  raw_record = record_type_expr RawName raw_reference

  -- what an attribute stands for that is written in the namespace: whether it is required, and its
  -- type
  abbrev pub raw_attribute : TypeOfAttribute RawName → Bool × Expr
  raw_attribute = flag_and_expr RawName raw_reference
