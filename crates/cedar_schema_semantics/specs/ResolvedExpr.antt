use Rattle.cedar_ast.specs.InternalName.{name_of}
use Rattle.cedar_ast.specs.declared.internal_name.InternalName.{InternalName}
use Rattle.cedar_schema_ast.specs.Words.{Expr, Reference, record_type_expr, type_expr, variant_expr}
use Rattle.cedar_schema_ast.specs.declared.json_schema.reference_type.ReferenceType.{ReferenceType}
use Rattle.cedar_schema_ast.specs.declared.json_schema.type_of.RecordType.{RecordType}
use Rattle.cedar_schema_ast.specs.declared.json_schema.type_of.Type.{«Type»}
use Rattle.cedar_schema_ast.specs.declared.json_schema.type_of.TypeVariant.{TypeVariant}
use Rattle.cedar_schema_semantics.specs.Resolved.{reference_to_one}

-- what a full name refers to at a position of the kind: what is defined under it alone
abbrev pub resolved_reference : ReferenceType → InternalName → Reference
resolved_reference kind name = reference_to_one kind (name_of name)

-- what a type over full names stands for
abbrev pub resolved_expr : «Type» InternalName → Expr
resolved_expr = type_expr InternalName resolved_reference

-- what a type variant over full names stands for
abbrev pub resolved_variant : TypeVariant InternalName → Expr
resolved_variant = variant_expr InternalName resolved_reference

-- what a record type over full names stands for
abbrev pub resolved_record : RecordType InternalName → Expr
resolved_record = record_type_expr InternalName resolved_reference
