use Rattle.std.proofs.Common.{map}
use Rattle.std.specs.Map.Iter.{deref}
use Rattle.cedar_schema_elements.proofs.SetLemmas.{AnswersAlike}
use Rattle.cedar_schema_elements.proofs.sets.copied.Given as goal

abbrev pub invariant-loop-item : goal.invariant-loop-item
invariant-loop-item g l = AnswersAlike g.K.PartialEq.eq l.set.keys (map deref l.yielded)
