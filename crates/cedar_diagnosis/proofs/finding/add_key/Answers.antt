use Rattle.std.proofs.Common.{map}
use Rattle.cedar_diagnosis.proofs.AddingLemmas.{adds_also}
use Rattle.cedar_diagnosis.proofs.finding.add_key.Goals as goal
use Rattle.cedar_name_resolution.proofs.SetLemmas.{inserted}

pub returns : goal.returns
returns g c =
    let fault = g.F.FaultKind.fault in
    rw c.in_ok-_is_new.ensures.keys
    (adds_also (map fault c.args.keys.now.keys) _ (fault c.args.key)
    (inserted g.F.Key.Ord.cmp fault g.met.F.FaultKind.ties c.args.keys.now.keys c.args.key))
