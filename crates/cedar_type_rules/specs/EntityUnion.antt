use Rattle.std.specs.Prelude.{◌⊎◌, ◌↔◌, List, [], ◌∷◌, Option, Some, None, Contains}
use Rattle.cedar_ast.specs.PlainName.{PlainName}

-- the only name, where there is just one
abbrev pub only_name : List PlainName → Option PlainName
only_name [] = None
only_name (name ∷ []) = Some name
only_name (name ∷ other ∷ rest) = None

-- no name stands in both lists
abbrev pub AreDisjoint : List PlainName → List PlainName → Type 0
AreDisjoint names others = (name : PlainName) → Contains names name → ¬ Contains others name

-- the names of the last list are those that stand in one of the first two
abbrev pub IsUnionOf : List PlainName → List PlainName → List PlainName → Type 0
IsUnionOf names others all = (name : PlainName)
    → Contains all name ↔ (Contains names name ⊎ Contains others name)
