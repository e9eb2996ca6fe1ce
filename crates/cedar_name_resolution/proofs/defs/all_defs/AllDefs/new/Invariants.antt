use Rattle.std.proofs.Common.{take}
use Rattle.cedar_name_resolution.proofs.defs.all_defs.AllDefs.new.Given as goal
use Rattle.cedar_name_resolution.specs.HeldNames.{HoldsAlso, listed_names, names_together}

abbrev pub invariant-loop-fragment : goal.invariant-loop-fragment
invariant-loop-fragment g l =
    HoldsAlso (listed_names l.names) (listed_names l.initial.names)
    (names_together g.F.DeclaresNames.names (take l.fragment-index l.fragments))
