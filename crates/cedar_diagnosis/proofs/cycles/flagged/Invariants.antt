use Rattle.std.proofs.Common.{[], map, take}
use Rattle.cedar_diagnosis.proofs.cycles.flagged.Given as goal
use Rattle.cedar_diagnosis.specs.Adding.{Adds, SomeGives}
use Rattle.cedar_diagnosis.specs.Links.{IsFlagged, link_told}

abbrev pub invariant-loop-link : goal.invariant-loop-link
invariant-loop-link g l =
    Adds (SomeGives (IsFlagged (map g.L.FaultKind.fault l.names) l.flags) (map (link_told g.L.FaultKind.fault) (take l.link-index l.links))) []
    (map g.L.FaultKind.fault l.keys.keys)
