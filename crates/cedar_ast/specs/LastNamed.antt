use Rattle.std.specs.Option.{option_or}
use Rattle.std.specs.Prelude.{if◌then◌else◌, List, [], ◌∷◌, Option, Some, None}
use Rattle.std.specs.Str.{bytes_eq}
use Rattle.cedar_ast.specs.Text.{Text}

-- what the last of some pairs with that name gives
abbrev pub last_named : {A : Type 0} → Text → List (Text × A) → Option A
last_named name [] = None
last_named name (item ∷ rest) =
    option_or (last_named name rest) (if bytes_eq name item.0 then Some item.1 else None)
