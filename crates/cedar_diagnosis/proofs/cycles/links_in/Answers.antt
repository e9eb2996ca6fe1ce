use Rattle.std.proofs.Common.{[], map}
use Rattle.cedar_diagnosis.proofs.AddingLemmas.{gives_all, gives_next}
use Rattle.cedar_diagnosis.proofs.cycles.links_in.Goals as goal
use Rattle.cedar_diagnosis.specs.Lent.{declaration_of}
use Rattle.cedar_diagnosis.specs.Links.{link_told}

pub loop-it-preserved : goal.loop-it-preserved
loop-it-preserved g c =
    let told = link_told g.L.FaultKind.fault in
    gives_next (g.L.Links.linked c.args.linker.now) declaration_of c.args.bag.now [] c.loop-it.it-index c.it-item.result
    (map told c.loop-it.links.items) (map told c.link.new.links.items) c.loop-it-test.true c.it-item.is c.loop-it.invariant c.in_ok-link.ensures

pub returns : goal.returns
returns g c =
    gives_all (g.L.Links.linked c.args.linker.now) declaration_of c.args.bag.now [] c.loop-it.it-index
    (map (link_told g.L.FaultKind.fault) c.loop-it.links.items) c.loop-it-test.false c.loop-it.invariant
