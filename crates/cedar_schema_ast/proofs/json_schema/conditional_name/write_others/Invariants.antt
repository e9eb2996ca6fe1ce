use Rattle.std.proofs.Common.{map, codes, take}
use Rattle.std.specs.Fmt.{HasWritten, IsPlainFormatter}
use Rattle.cedar_schema_ast.proofs.json_schema.conditional_name.write_others.Given as goal
use Rattle.cedar_schema_ast.specs.Words.{each_after, name_of, name_text}

abbrev pub invariant-loop-name : goal.invariant-loop-name
invariant-loop-name g l =
    IsPlainFormatter l.initial.f → HasWritten g.W.Write.write_str_gives l.initial.f
    (each_after (codes " or ") (map name_text (map name_of (take l.name-index l.names)))) l.f
