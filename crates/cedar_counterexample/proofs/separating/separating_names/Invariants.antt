use Rattle.cedar_counterexample.proofs.StartLemmas.{NamesSoFar}
use Rattle.cedar_counterexample.proofs.separating.separating_names.Given as goal
use Rattle.cedar_counterexample.specs.Words.{fields_from, fields_of, plain_attributes}

abbrev pub invariant-loop-name : goal.invariant-loop-name
invariant-loop-name l = NamesSoFar (fields_of l.lower) (fields_of l.upper) (fields_from (plain_attributes l.name-iterator))
