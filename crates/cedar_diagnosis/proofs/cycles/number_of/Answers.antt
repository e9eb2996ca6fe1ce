use Rattle.cedar_diagnosis.proofs.LinkLemmas.{found_nowhere, found_there}
use Rattle.cedar_diagnosis.proofs.cycles.number_of.Goals as goal

pub returns-in-Ok-clause-found : goal.returns-in-Ok-clause-found
returns-in-Ok-clause-found g c =
    found_there g.F.Key.Ord.cmp g.F.FaultKind.fault g.met.F.FaultKind.ties g.met.F.Key.Ord.total c.args.names.now c.requires c.args.key.now _
    c.in-Ok.ensures.bound (λ d. c.in-Ok.ensures.position d)

pub returns-in-Err-clause-lacking : goal.returns-in-Err-clause-lacking
returns-in-Err-clause-lacking g c =
    found_nowhere g.F.Key.Ord.cmp g.F.FaultKind.fault g.met.F.FaultKind.ties g.met.F.Key.Ord.total c.args.names.now c.requires c.args.key.now _
    c.in-Err.ensures.position
