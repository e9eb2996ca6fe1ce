use Rattle.std.specs.Prelude.{ℕ, Option, None, Some, ◌==◌, cond}
use Rattle.cedar_ast.specs.Identifier.{is_identifier_start, is_identifier_byte}
use Rattle.cedar_ast.specs.declared.reading.Reading.{Reading}
use Rattle.cedar_ast.specs.declared.reading.Reading.TheVariants.{Start, Inside, Colon}

-- what is read of a name with one byte more: a part begins, a part goes on, or a `:` of the two
-- between parts
abbrev pub reading_then : Reading → ℕ → Option Reading
reading_then Start byte = cond (is_identifier_start byte) (Some Inside) None
reading_then Inside byte = cond (is_identifier_byte byte) (Some Inside)
    (cond (byte == 58) (Some Colon) None)
reading_then Colon byte = cond (byte == 58) (Some Start) None
