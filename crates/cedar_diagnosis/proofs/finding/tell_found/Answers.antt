use Rattle.std.proofs.Common.{map}
use Rattle.cedar_diagnosis.proofs.KeyLemmas.{tells_just}
use Rattle.cedar_diagnosis.proofs.finding.tell_found.Goals as goal
use Rattle.cedar_diagnosis.specs.Adding.{SomeGives}
use Rattle.cedar_diagnosis.specs.Lent.{declarations_of}
use Rattle.cedar_schema_semantics.specs.Words.{fault_of}

pub returns : goal.returns
returns g c =
    tells_just c.tell.result (SomeGives (g.F.Finds.finds c.args.finder.now) (declarations_of c.args.bag.now)) (map fault_of c.args.faults.now.items)
    (map fault_of c.tell.new.faults.items) (map g.F.FaultKind.fault c.in_ok-found_in.field-0.keys) c.tell.ensures.told c.in_ok-found_in.ensures
    c.tell.ensures.once
