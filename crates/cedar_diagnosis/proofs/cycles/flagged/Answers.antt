use Rattle.std.proofs.Common.{[], map}
use Rattle.cedar_diagnosis.proofs.AddingLemmas.{gives_all, gives_next}
use Rattle.cedar_diagnosis.proofs.cycles.flagged.Goals as goal
use Rattle.cedar_diagnosis.specs.Links.{IsFlagged, link_told}

pub loop-link-preserved : goal.loop-link-preserved
loop-link-preserved g c =
    let fault = g.L.FaultKind.fault in
    gives_next (IsFlagged (map fault c.args.names.now) c.args.flags.now) (link_told fault) c.args.links.now [] c.loop-link.link-index
    c.link-item.result (map fault c.loop-link.keys.keys) (map fault c.add_flagged.new.keys.keys) c.loop-link-test.true c.link-item.is
    c.loop-link.invariant c.in_ok-add_flagged.ensures

pub returns : goal.returns
returns g c =
    let fault = g.L.FaultKind.fault in
    gives_all (IsFlagged (map fault c.args.names.now) c.args.flags.now) (link_told fault) c.args.links.now [] c.loop-link.link-index
    (map fault c.loop-link.keys.keys) c.loop-link-test.false c.loop-link.invariant
