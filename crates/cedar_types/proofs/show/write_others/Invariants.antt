use Rattle.std.proofs.Common.{◌++◌, map, codes, take}
use Rattle.std.specs.Fmt.{HasWritten, IsPlainFormatter}
use Rattle.std.specs.List.{flat_map}
use Rattle.cedar_types.proofs.show.write_others.Given as goal
use Rattle.cedar_types.specs.Words.{name_text, type_name}

abbrev pub invariant-loop-ty : goal.invariant-loop-ty
invariant-loop-ty g l =
    IsPlainFormatter l.initial.f → HasWritten g.W.Write.write_str_gives l.initial.f
    (flat_map (λ name. codes ", " ++ name_text name) (map type_name (take l.ty-index l.types))) l.f
