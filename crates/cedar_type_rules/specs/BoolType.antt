use Rattle.std.specs.Prelude.{codes}
use Rattle.cedar_ast.specs.Text.{Text}
use Rattle.cedar_type_rules.specs.declared.bool_type.BoolType.{BoolType}
use Rattle.cedar_type_rules.specs.declared.bool_type.BoolType.TheVariants as bool_type

-- what is known of a truth value, as it is printed
abbrev pub bool_text : BoolType → Text
bool_text bool_type.AnyBool = codes "Bool"
bool_text bool_type.True = codes "__cedar::internal::True"
bool_text bool_type.False = codes "__cedar::internal::False"
