use Rattle.cedar_counterexample.proofs.NamedLemmas.{NamedSoFar}
use Rattle.cedar_counterexample.proofs.named.named_values.Given as goal

abbrev pub invariant-loop-name : goal.invariant-loop-name
invariant-loop-name l = NamedSoFar l.fn.exprs.entries l.values.entries l.name-iterator
