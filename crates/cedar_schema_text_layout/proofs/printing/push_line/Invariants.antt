use Rattle.std.proofs.Common.{◌≡◌, ◌++◌, ◌∷◌, string_bytes}
use Rattle.cedar_schema_text_layout.specs.Separators.{indent}
use Rattle.cedar_schema_text_layout.proofs.printing.push_line.Given as goal

abbrev pub invariant-loop-level : goal.invariant-loop-level
invariant-loop-level l = string_bytes l.out ≡ string_bytes l.fn.out ++ 10 ∷ indent l._level
