use Rattle.cedar_places.proofs.TableLemmas.{IsUnderWay}
use Rattle.cedar_places.proofs.written.Places.of.Given as goal
use Rattle.cedar_places.specs.Words.{definition_marks, fragment_marks, namespace_of}

abbrev pub invariant-loop-namespace : goal.invariant-loop-namespace
invariant-loop-namespace l =
    IsUnderWay (λ entry. definition_marks (namespace_of entry.0) entry.1) l.initial.table (fragment_marks l.fragment) l.table l.namespace-iterator
