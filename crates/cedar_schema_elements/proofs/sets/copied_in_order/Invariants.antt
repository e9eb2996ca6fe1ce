use Rattle.std.proofs.Common.{map}
use Rattle.std.specs.BTreeSet.{IsOrdered}
use Rattle.std.specs.Map.Iter.{deref}
use Rattle.std.specs.Ordering.{eq_by_cmp}
use Rattle.cedar_schema_elements.proofs.SetLemmas.{AnswersAlike}
use Rattle.cedar_schema_elements.proofs.sets.copied_in_order.Given as goal

abbrev pub invariant-loop-item : goal.invariant-loop-item
invariant-loop-item g l =
    AnswersAlike (eq_by_cmp g.K.Ord.cmp) l.set.keys (map deref l.yielded) × IsOrdered g.K.Ord.cmp l.set
