use Rattle.std.proofs.Common.{◌≡◌, ◌<◌, ℕ, [], length}
use Rattle.cedar_cycles.proofs.search.on_cycles.Given as goal
use Rattle.cedar_cycles.specs.Search.{IsMet, IsSearching}

abbrev pub invariant-loop-start : goal.invariant-loop-start
invariant-loop-start l = record {
  under_way : IsSearching l.targets.items [] l.search;
  at_rest : length l.search.path.items ≡ 0;
  met : (number : ℕ) → number < l.start → IsMet l.search.marks.items number;
}
