use Rattle.std.specs.Prelude.{◌++◌, codes}
use Rattle.cedar_ast.specs.PlainName.{PlainName, name_text}
use Rattle.cedar_ast.specs.Text.{Text}

-- the refusal of a call of an unknown function as it is printed: with the name that was asked for
abbrev pub unknown_function_text : PlainName → Text
unknown_function_text name = codes "no extension function is named " ++ name_text name
