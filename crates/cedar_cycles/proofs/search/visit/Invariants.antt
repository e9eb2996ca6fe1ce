use Rattle.cedar_cycles.proofs.search.visit.Given as goal
use Rattle.std.proofs.Common.{[]}
use Rattle.cedar_cycles.specs.Search.{IsMet, IsSearching, KeepsMet, cost_left}

abbrev pub invariant-loop-group : goal.invariant-loop-group
invariant-loop-group l = record {
  under_way : IsSearching l.targets.items [] l.search;
  met : IsMet l.search.marks.items l.start;
  keeps : KeepsMet l.fn.search.marks.items l.search.marks.items;
}

abbrev pub decreases-loop-group : goal.decreases-loop-group
decreases-loop-group l = cost_left l.targets.items l.search
