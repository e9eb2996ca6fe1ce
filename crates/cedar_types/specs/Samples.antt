use Rattle.std.specs.Prelude.{List, map}
use Rattle.cedar_ast.specs.Words.{Tree, tree_of, value_expr}
use Rattle.cedar_ast.specs.declared.value.Value.{Value}

-- what a value stands for, as of the expression that it is given by
abbrev pub value_tree : Value → Tree
value_tree value = tree_of (value_expr value)

-- what some values stand for
abbrev pub value_trees : List Value → List Tree
value_trees values = map value_tree values
