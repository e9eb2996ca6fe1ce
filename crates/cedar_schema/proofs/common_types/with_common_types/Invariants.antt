use Rattle.std.proofs.Common.{◌≡◌, ◌++◌, map, take}
use Rattle.std.specs.List.{flat_map}
use Rattle.cedar_schema.proofs.ShownLemmas.{one_to_show}
use Rattle.cedar_schema.proofs.common_types.with_common_types.Given as goal
use Rattle.cedar_schema.specs.Words.{shown_common_type}

abbrev pub invariant-loop-def : goal.invariant-loop-def
invariant-loop-def g l =
    map shown_common_type l.shown.items
    ≡ map shown_common_type l.fn.shown.items ++ flat_map (one_to_show g.row.N.Denot) (take l.def-index l.defs)
