-- The names of built-in types.
use Rattle.std.specs.Prelude.{◌≡◌, ◌⊎◌, List, Contains}
use Rattle.cedar_ast.specs.Words.{PlainName, Text}
use Rattle.cedar_schema_semantics.specs.Words.{alias_name, built_in_name}

-- the name is that of the built-in type of a base name: its full one, or the base name alone where
-- no type has it
abbrev pub IsBuiltInName : List PlainName → Text → PlainName → Type 0
IsBuiltInName types word name = (built_in_name word ≡ name)
    ⊎ ((alias_name word ≡ name) × ¬ Contains types (alias_name word))
