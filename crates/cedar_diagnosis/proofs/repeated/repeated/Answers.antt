use Rattle.std.proofs.Common.{map, ap}
use Rattle.std.specs.List.{flat_map}
use Rattle.std.proofs.lemmas.List.{take_all}
use Rattle.cedar_diagnosis.proofs.RepeatedLemmas.{noted_more}
use Rattle.cedar_diagnosis.proofs.repeated.repeated.Goals as goal
use Rattle.cedar_diagnosis.specs.Lent.{declaration_of}

pub loop-it-preserved : goal.loop-it-preserved
loop-it-preserved g c =
    let fault = g.R.FaultKind.fault in
    noted_more declaration_of g.R.Repeats.given c.args.bag.now c.loop-it.it-index c.it-item.result (map fault c.loop-it.seen.keys)
    (map fault c.note_declared.new.seen.keys) (map fault c.loop-it.twice.keys) (map fault c.note_declared.new.twice.keys)
    c.loop-it-test.true c.it-item.is c.in_ok-note_declared.ensures.single c.in_ok-note_declared.ensures.seen c.in_ok-note_declared.ensures.twice
    c.loop-it.invariant

pub returns : goal.returns
returns g c =
    rw (ap (λ each. flat_map g.R.Repeats.given (map declaration_of each)) (take_all c.loop-it.it-index c.args.bag.now c.loop-it-test.false)) at
    c.loop-it.invariant.twice_all
