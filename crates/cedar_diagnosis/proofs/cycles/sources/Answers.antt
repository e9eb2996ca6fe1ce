use Rattle.std.proofs.Common.{◌≡◌, [], map}
use Rattle.cedar_diagnosis.proofs.AddingLemmas.{gives_all, gives_next}
use Rattle.cedar_diagnosis.proofs.cycles.sources.Goals as goal
use Rattle.cedar_diagnosis.specs.Links.{link_told}
use Rattle.cedar_schema_semantics.specs.Words.{Fault}

-- the name that a link leads from
abbrev LeadsFrom : Fault × Fault → Fault → Type 0
LeadsFrom link fault = link.0 ≡ fault

pub loop-link-preserved : goal.loop-link-preserved
loop-link-preserved g c =
    let fault = g.L.FaultKind.fault in
    gives_next LeadsFrom (link_told fault) c.args.links.now [] c.loop-link.link-index c.link-item.result
    (map fault c.loop-link.keys.keys) (map fault c.add_source.new.keys.keys) c.loop-link-test.true c.link-item.is c.loop-link.invariant
    c.in_ok-add_source.ensures

pub returns : goal.returns
returns g c =
    let fault = g.L.FaultKind.fault in
    gives_all LeadsFrom (link_told fault) c.args.links.now [] c.loop-link.link-index (map fault c.loop-link.keys.keys) c.loop-link-test.false
    c.loop-link.invariant
