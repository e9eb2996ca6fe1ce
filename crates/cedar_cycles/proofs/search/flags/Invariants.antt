use Rattle.std.proofs.Common.{◌≡◌, map, take}
use Rattle.cedar_cycles.proofs.search.flags.Given as goal
use Rattle.cedar_cycles.specs.Search.{is_on_cycle}

abbrev pub invariant-loop-mark : goal.invariant-loop-mark
invariant-loop-mark l = l.flags.items ≡ map is_on_cycle (take l.mark-index l.marks)
