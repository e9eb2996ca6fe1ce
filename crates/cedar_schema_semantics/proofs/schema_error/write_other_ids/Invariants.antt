use Rattle.std.proofs.Common.{map, codes, take, string_bytes}
use Rattle.std.specs.Fmt.{HasWritten, IsPlainFormatter}
use Rattle.cedar_schema_semantics.proofs.schema_error.write_other_ids.Given as goal
use Rattle.cedar_schema_semantics.specs.Words.{each_after, quoted_text}

abbrev pub invariant-loop-id : goal.invariant-loop-id
invariant-loop-id g l =
    IsPlainFormatter l.initial.f → HasWritten g.W.Write.write_str_gives l.initial.f
    (each_after (codes ", ") (map quoted_text (map string_bytes (take l.id-index l.ids)))) l.f
