use Rattle.std.proofs.Common.{map, take}
use Rattle.std.specs.Fmt.{HasWritten, IsPlainFormatter}
use Rattle.std.specs.List.{flat_map}
use Rattle.cedar_queries.proofs.completeness.write_types.Given as goal
use Rattle.cedar_queries.specs.Words.{external_type_text, type_name}

abbrev pub invariant-loop-ty : goal.invariant-loop-ty
invariant-loop-ty g l =
    IsPlainFormatter l.initial.f → HasWritten g.W.Write.write_str_gives l.initial.f
    (flat_map external_type_text (map type_name (take l.ty-index l.types))) l.f
