use Rattle.std.specs.Prelude.{List, ◌∷◌}
use Rattle.cedar_ast.specs.declared.non_empty.NonEmpty.{NonEmpty}

-- the items of a list that isn't empty, in order
abbrev pub items_of : {T : Type 0} → NonEmpty T → List T
items_of it = it.head ∷ it.tail.items
