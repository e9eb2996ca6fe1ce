use Rattle.std.proofs.Common.{[], map, take}
use Rattle.cedar_diagnosis.proofs.cycles.links_in.Given as goal
use Rattle.cedar_diagnosis.specs.Adding.{Adds, SomeGives}
use Rattle.cedar_diagnosis.specs.Lent.{declaration_of}
use Rattle.cedar_diagnosis.specs.Links.{link_told}

abbrev pub invariant-loop-it : goal.invariant-loop-it
invariant-loop-it g l =
    Adds (SomeGives (g.L.Links.linked l.linker) (map declaration_of (take l.it-index l.bag))) []
    (map (link_told g.L.FaultKind.fault) l.links.items)
