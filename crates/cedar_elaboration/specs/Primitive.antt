-- Primitive types, as they are written and as they are elaborated.
use Rattle.std.specs.Prelude.{Bool, false, true}
use Rattle.cedar_schema_ast.specs.Words.{Expr, long_expr, text_expr, truth_expr}
use Rattle.cedar_type_rules.specs.Ty.{Ty, long, text, truth}
use Rattle.cedar_type_rules.specs.declared.bool_type.BoolType.TheVariants.{AnyBool}

-- the type of truth values
abbrev pub any_truth : Ty
any_truth = truth AnyBool

-- whether the type is that of texts
abbrev pub is_text_type : Ty → Bool
is_text_type text = true
is_text_type _ = false

-- whether the type is that of whole numbers
abbrev pub is_long_type : Ty → Bool
is_long_type long = true
is_long_type _ = false

-- whether the type is that of truth values
abbrev pub is_truth_type : Ty → Bool
is_truth_type (truth AnyBool) = true
is_truth_type _ = false

-- the expression is a primitive type, and the type is what it is elaborated as
pub data IsPrimitive : Expr → Ty → Type 0 where
  is_text : IsPrimitive text_expr text
  is_long : IsPrimitive long_expr long
  is_truth : IsPrimitive truth_expr any_truth
