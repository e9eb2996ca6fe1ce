use Rattle.std.specs.Prelude.{◌≡◌, Bool}
use Rattle.cedar_schema_ast.specs.ConditionalName.{conditional_reference, possibilities_of}
use Rattle.cedar_schema_ast.specs.Expr.{Expr}
use Rattle.cedar_schema_ast.specs.Reference.{Reference}
use Rattle.cedar_schema_ast.specs.TypeExpr.{type_expr, variant_expr, record_type_expr, flag_and_expr}
use Rattle.cedar_schema_ast.specs.declared.json_schema.conditional_name.ConditionalName.{ConditionalName}
use Rattle.cedar_schema_ast.specs.declared.json_schema.reference_type.ReferenceType.{ReferenceType}
use Rattle.cedar_schema_ast.specs.declared.json_schema.type_of.RecordType.{RecordType}
use Rattle.cedar_schema_ast.specs.declared.json_schema.type_of.Type.{«Type»}
use Rattle.cedar_schema_ast.specs.declared.json_schema.type_of.TypeOfAttribute.{TypeOfAttribute}
use Rattle.cedar_schema_ast.specs.declared.json_schema.type_of.TypeVariant.{TypeVariant}

-- what a conditional name refers to, at whatever position: its possibilities, of the kinds that it
-- says itself
abbrev pub own_reference : ReferenceType → ConditionalName → Reference
own_reference kind name = conditional_reference name

-- what a conditional name would refer to at a position of the kind: its possibilities, of the kinds
-- that the position permits
abbrev pub positional_reference : ReferenceType → ConditionalName → Reference
positional_reference kind name = record { possibilities = possibilities_of name; kind = kind }

-- what a type over conditional names stands for
abbrev pub conditional_expr : «Type» ConditionalName → Expr
conditional_expr = type_expr ConditionalName own_reference

-- what a type variant over conditional names stands for
abbrev pub conditional_variant : TypeVariant ConditionalName → Expr
conditional_variant = variant_expr ConditionalName own_reference

-- what a record type over conditional names stands for
abbrev pub conditional_record : RecordType ConditionalName → Expr
conditional_record = record_type_expr ConditionalName own_reference

-- what an attribute over conditional names stands for: whether it is required, and its type
abbrev pub conditional_attribute : TypeOfAttribute ConditionalName → Bool × Expr
conditional_attribute = flag_and_expr ConditionalName own_reference

-- what a type would stand for if each reference were of the kind that its position permits
abbrev pub positional_expr : «Type» ConditionalName → Expr
positional_expr = type_expr ConditionalName positional_reference

-- the same of a type variant
abbrev pub positional_variant : TypeVariant ConditionalName → Expr
positional_variant = variant_expr ConditionalName positional_reference

-- the same of a record type
abbrev pub positional_record : RecordType ConditionalName → Expr
positional_record = record_type_expr ConditionalName positional_reference

-- the same of an attribute
abbrev pub positional_attribute : TypeOfAttribute ConditionalName → Bool × Expr
positional_attribute = flag_and_expr ConditionalName positional_reference

-- the references fit their positions: the type stands for the same, whether each reference is of
-- the kind that it says itself or of the kind that its position permits
abbrev pub ReferencesFit : «Type» ConditionalName → Type 0
ReferencesFit it = positional_expr it ≡ conditional_expr it
