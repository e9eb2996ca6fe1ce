use Rattle.std.proofs.Common.{◌++◌, map}
use Rattle.std.specs.Map.Iter.{deref}
use Rattle.std.specs.Ordering.{eq_by_cmp}
use Rattle.cedar_schema_elements.proofs.SetLemmas.{AnswersAlike}
use Rattle.cedar_schema_elements.proofs.sets.joined.Given as goal

abbrev pub invariant-loop-item : goal.invariant-loop-item
invariant-loop-item g l = AnswersAlike (eq_by_cmp g.K.Ord.cmp) l.all.items (l.fn.keys.items ++ map deref l.yielded)
