use Rattle.std.proofs.Common.{map, codes, take}
use Rattle.std.specs.Fmt.{HasWritten, IsPlainFormatter}
use Rattle.cedar_schema_semantics.proofs.schema_error.write_other_types.Given as goal
use Rattle.cedar_schema_semantics.specs.Words.{each_after, name_text, type_name}

abbrev pub invariant-loop-ty : goal.invariant-loop-ty
invariant-loop-ty g l =
    IsPlainFormatter l.initial.f → HasWritten g.W.Write.write_str_gives l.initial.f
    (each_after (codes ", or as ") (map name_text (map type_name (take l.ty-index l.types)))) l.f
