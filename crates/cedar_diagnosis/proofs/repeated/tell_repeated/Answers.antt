use Rattle.std.proofs.Common.{map}
use Rattle.std.specs.List.{flat_map}
use Rattle.cedar_ast.specs.Words.{Twice}
use Rattle.cedar_diagnosis.proofs.KeyLemmas.{tells_just}
use Rattle.cedar_diagnosis.proofs.repeated.tell_repeated.Goals as goal
use Rattle.cedar_diagnosis.specs.Lent.{declarations_of}
use Rattle.cedar_schema_semantics.specs.Words.{fault_of}

pub returns : goal.returns
returns g c =
    tells_just c.tell.result (Twice (flat_map g.R.Repeats.given (declarations_of c.args.bag.now))) (map fault_of c.args.faults.now.items)
    (map fault_of c.tell.new.faults.items) (map g.R.FaultKind.fault c.in_ok-repeated.field-0.keys) c.tell.ensures.told c.in_ok-repeated.ensures
    c.tell.ensures.once
