use Rattle.std.proofs.Common.{map, Contains}
use Rattle.cedar_diagnosis.proofs.RepeatedLemmas.{one_given, only_given, optional_once_ok}
use Rattle.cedar_diagnosis.proofs.repeated.note_declared.Goals as goal
use Rattle.cedar_diagnosis.specs.Lent.{declaration_of}

pub returns-in-Some-clause-seen : goal.returns-in-Some-clause-seen
returns-in-Some-clause-seen g c =
    let fault = g.R.FaultKind.fault in
    only_given c.note.result fault c.in-Some.key (g.R.Repeats.given (declaration_of c.args.it.now)) (map fault c.args.seen.now.keys)
    (map fault c.note.new.seen.keys) (rw c.in-Some.is at c.in_ok-key.ensures) c.note.ensures.seen

pub returns-in-Some-clause-twice : goal.returns-in-Some-clause-twice
returns-in-Some-clause-twice g c =
    let fault = g.R.FaultKind.fault in
    one_given c.note.result fault c.in-Some.key (g.R.Repeats.given (declaration_of c.args.it.now)) (Contains (map fault c.args.seen.now.keys))
    (map fault c.args.twice.now.keys) (map fault c.note.new.twice.keys) (rw c.in-Some.is at c.in_ok-key.ensures) c.note.ensures.twice

pub returns-in-Some-clause-single : goal.returns-in-Some-clause-single
returns-in-Some-clause-single g c =
    optional_once_ok c.note.result g.R.FaultKind.fault c.in_ok-key.field-0 (g.R.Repeats.given (declaration_of c.args.it.now)) c.in_ok-key.ensures
