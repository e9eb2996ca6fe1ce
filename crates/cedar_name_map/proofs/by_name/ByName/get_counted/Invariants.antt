use Rattle.std.proofs.Common.{◌-◌}
use Rattle.cedar_name_map.proofs.SearchLemmas.{Halves}
use Rattle.cedar_name_map.proofs.by_name.ByName.get_counted.Given as goal

abbrev pub invariant-loop-low : goal.invariant-loop-low
invariant-loop-low g l = Halves l.entries l.name l.low l.high l.compared

abbrev pub decreases-loop-low : goal.decreases-loop-low
decreases-loop-low g l = l.high - l.low
