use Rattle.std.proofs.Common.{[], map}
use Rattle.cedar_ast.specs.Words.{type_name}
use Rattle.cedar_diagnosis.proofs.AddingLemmas.{gives_all, gives_next}
use Rattle.cedar_diagnosis.proofs.enumerated.enumerated_types.Goals as goal
use Rattle.cedar_diagnosis.specs.Finding.{IsEnumeratedName}
use Rattle.cedar_diagnosis.specs.Lent.{declaration_of}

pub loop-it-preserved : goal.loop-it-preserved
loop-it-preserved c =
    gives_next IsEnumeratedName declaration_of c.args.bag.now [] c.loop-it.it-index c.it-item.result
    (map type_name c.loop-it.types.keys) (map type_name c.add_enumerated.new.types.keys) c.loop-it-test.true c.it-item.is c.loop-it.invariant
    c.in_ok-add_enumerated.ensures

pub returns : goal.returns
returns c =
    gives_all IsEnumeratedName declaration_of c.args.bag.now [] c.loop-it.it-index (map type_name c.loop-it.types.keys) c.loop-it-test.false
    c.loop-it.invariant
