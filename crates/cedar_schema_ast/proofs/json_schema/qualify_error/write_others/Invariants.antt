use Rattle.std.proofs.Common.{map, codes, take}
use Rattle.std.specs.Fmt.{HasWritten, IsPlainFormatter}
use Rattle.cedar_schema_ast.proofs.json_schema.qualify_error.write_others.Given as goal
use Rattle.cedar_schema_ast.specs.Words.{conditional_reference, each_after, undeclared_text}

abbrev pub invariant-loop-reference : goal.invariant-loop-reference
invariant-loop-reference g l =
    IsPlainFormatter l.initial.f → HasWritten g.W.Write.write_str_gives l.initial.f
    (each_after (codes ", ") (map undeclared_text (map conditional_reference (take l.reference-index l.references)))) l.f
