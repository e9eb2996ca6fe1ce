use Rattle.cedar_ast.specs.declared.value.RestrictedExpr.{RestrictedExpr}
use Rattle.cedar_ast.specs.declared.value.Value.{Value}

-- the expression that stands for a value
abbrev pub value_expr : Value → RestrictedExpr
value_expr value = value.expr
