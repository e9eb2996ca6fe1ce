use Rattle.std.specs.List.{flat_map}
use Rattle.std.specs.Prelude.{List, [], ◌∷◌, ◌++◌}
use Rattle.cedar_ast.specs.Text.{Text}

-- texts one after another, each behind a separator
abbrev pub each_after : Text → List Text → Text
each_after separator texts = flat_map (λ text. separator ++ text) texts

-- texts one after another, with a separator between each two
abbrev pub joined : Text → List Text → Text
joined separator [] = []
joined separator (first ∷ others) = first ++ each_after separator others
