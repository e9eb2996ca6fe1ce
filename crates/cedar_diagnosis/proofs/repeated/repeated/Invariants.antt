use Rattle.std.proofs.Common.{map, take}
use Rattle.cedar_diagnosis.proofs.RepeatedLemmas.{NotedSoFar}
use Rattle.cedar_diagnosis.proofs.repeated.repeated.Given as goal
use Rattle.cedar_diagnosis.specs.Lent.{declaration_of}

abbrev pub invariant-loop-it : goal.invariant-loop-it
invariant-loop-it g l =
    NotedSoFar declaration_of g.R.Repeats.given l.bag (take l.it-index l.bag) (map g.R.FaultKind.fault l.seen.keys) (map g.R.FaultKind.fault l.twice.keys)
