use Rattle.std.proofs.Common.{[], map}
use Rattle.cedar_diagnosis.proofs.AddingLemmas.{gives_all, gives_next}
use Rattle.cedar_diagnosis.proofs.finding.found_in.Goals as goal
use Rattle.cedar_diagnosis.specs.Lent.{declaration_of}

pub loop-it-preserved : goal.loop-it-preserved
loop-it-preserved g c =
    let fault = g.F.FaultKind.fault in
    gives_next (g.F.Finds.finds c.args.finder.now) declaration_of c.args.bag.now [] c.loop-it.it-index c.it-item.result
    (map fault c.loop-it.keys.keys) (map fault c.find.new.keys.keys) c.loop-it-test.true c.it-item.is c.loop-it.invariant
    c.in_ok-find.ensures

pub returns : goal.returns
returns g c =
    let fault = g.F.FaultKind.fault in
    gives_all (g.F.Finds.finds c.args.finder.now) declaration_of c.args.bag.now [] c.loop-it.it-index
    (map fault c.loop-it.keys.keys) c.loop-it-test.false c.loop-it.invariant
