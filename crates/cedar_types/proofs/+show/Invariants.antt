use Rattle.std.proofs.Common.{take}
use Rattle.std.specs.Fmt.{HasWritten, IsPlainFormatter}
use Rattle.std.specs.List.{flat_map}
use Rattle.cedar_types.proofs.+show.Given as goal
use Rattle.cedar_types.proofs.TextLemmas.{entry_text}

abbrev pub invariant-attributes::AttributesDisplay::fmt-loop-name :
    goal.invariant-attributes::AttributesDisplay::fmt-loop-name
invariant-attributes::AttributesDisplay::fmt-loop-name g l =
    IsPlainFormatter l.initial.f → HasWritten g.W.Write.write_str_gives l.initial.f
    (flat_map entry_text (take l.name-index l.name-items)) l.f
