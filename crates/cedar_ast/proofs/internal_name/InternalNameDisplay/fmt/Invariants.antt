use Rattle.std.proofs.Common.{◌++◌, map, codes, take}
use Rattle.std.specs.Fmt.{HasWritten, IsPlainFormatter}
use Rattle.std.specs.List.{flat_map}
use Rattle.cedar_ast.proofs.internal_name.InternalNameDisplay.fmt.Given as goal
use Rattle.cedar_ast.specs.Id.{id_text}

abbrev pub invariant-loop-part : goal.invariant-loop-part
invariant-loop-part g l =
    IsPlainFormatter l.initial.f → HasWritten g.W.Write.write_str_gives l.initial.f
    (flat_map (λ part. part ++ codes "::") (map id_text (take l.part-index l.part-items))) l.f
