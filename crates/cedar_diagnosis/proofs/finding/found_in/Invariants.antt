use Rattle.std.proofs.Common.{[], map, take}
use Rattle.cedar_diagnosis.proofs.finding.found_in.Given as goal
use Rattle.cedar_diagnosis.specs.Adding.{Adds, SomeGives}
use Rattle.cedar_diagnosis.specs.Lent.{declaration_of}

abbrev pub invariant-loop-it : goal.invariant-loop-it
invariant-loop-it g l =
    Adds (SomeGives (g.F.Finds.finds l.finder) (map declaration_of (take l.it-index l.bag))) [] (map g.F.FaultKind.fault l.keys.keys)
