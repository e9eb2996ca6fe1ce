use Rattle.std.proofs.Common.{◌≡◌, ◌∷◌, ◌++◌, string_bytes}
use Rattle.cedar_schema_text_writer.specs.Pieces.{indent}
use Rattle.cedar_schema_text_writer.proofs.pieces.put_line.Given as goal

abbrev pub invariant-loop-done : goal.invariant-loop-done
invariant-loop-done l = string_bytes l.out ≡ string_bytes l.fn.out ++ 10 ∷ indent l._done
