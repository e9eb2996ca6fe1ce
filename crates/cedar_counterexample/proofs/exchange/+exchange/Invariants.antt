use Rattle.std.proofs.Common.{drop}
use Rattle.cedar_counterexample.proofs.ExchangedLemmas.{ExchangedSoFar, PairsSoFar}
use Rattle.cedar_counterexample.proofs.exchange.+exchange.Given as goal
use Rattle.cedar_counterexample.specs.Words.{StandsFor}

abbrev pub invariant-exchanged_each-loop-value : goal.invariant-exchanged_each-loop-value
invariant-exchanged_each-loop-value g l =
    ExchangedSoFar (StandsFor (g.S.Scope.ExistsInOld l.exchange.scope.now) l.exchange.longest) l.values l.others.items
    (drop l.value-index l.values)

abbrev pub invariant-exchanged_entries-loop-name : goal.invariant-exchanged_entries-loop-name
invariant-exchanged_entries-loop-name g l =
    PairsSoFar (StandsFor (g.S.Scope.ExistsInOld l.exchange.scope.now) l.exchange.longest) l.values.entries l.others.entries l.name-iterator
