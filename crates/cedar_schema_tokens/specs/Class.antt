-- The sets of bytes in which the private functions find runs.
use Rattle.std.specs.Prelude.{ℕ, Bool}
use Rattle.std.specs.Char.{is_ascii_hexdigit}
use Rattle.cedar_schema_tokens.specs.declared.steps.Class.{Class}
use Rattle.cedar_schema_tokens.specs.declared.steps.Class.TheVariants.{Word, Plain, Line, Hex}
use Rattle.cedar_schema_tokens.specs.Lexical.{is_word, is_plain, is_line}

abbrev pub class_test : Class → ℕ → Bool
class_test Word = is_word
class_test Plain = is_plain
class_test Line = is_line
class_test Hex = is_ascii_hexdigit
