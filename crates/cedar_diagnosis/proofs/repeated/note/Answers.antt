use Rattle.std.proofs.Common.{map, sym, ◌∙◌, Contains}
use Rattle.std.proofs.lemmas.Bool.{false≢true}
use Rattle.cedar_diagnosis.proofs.RepeatedLemmas.{seen_also, twice_seen, unseen_twice}
use Rattle.cedar_diagnosis.proofs.repeated.note.Goals as goal
use Rattle.cedar_name_resolution.proofs.SetLemmas.{found-Decides}

pub returns-then-contains-clause-seen : goal.returns-then-contains-clause-seen
returns-then-contains-clause-seen g c =
    let fault = g.R.FaultKind.fault in
    let keys = c.args.seen.now.keys in
    let found = (found-Decides g.R.Key.Ord.cmp fault g.met.R.FaultKind.ties keys c.args.key).0 (sym c.contains.ensures ∙ c.if-contains.true) in
    seen_also c.add_key.result (map fault keys) (fault c.args.key) found

pub returns-then-contains-clause-twice : goal.returns-then-contains-clause-twice
returns-then-contains-clause-twice g c =
    let fault = g.R.FaultKind.fault in
    let keys = c.args.seen.now.keys in
    let found = (found-Decides g.R.Key.Ord.cmp fault g.met.R.FaultKind.ties keys c.args.key).0 (sym c.contains.ensures ∙ c.if-contains.true) in
    twice_seen c.add_key.result (map fault keys) (map fault c.args.twice.now.keys) (map fault c.add_key.new.keys.keys) (fault c.args.key) found
    c.add_key.ensures

pub returns-clause-twice : goal.returns-clause-twice
returns-clause-twice g c =
    let fault = g.R.FaultKind.fault in
    let keys = c.args.seen.now.keys in
    let fresh : ¬ Contains (map fault keys) (fault c.args.key) = λ among. false≢true (sym c.if-contains.false
    ∙ (c.contains.ensures ∙ (found-Decides g.R.Key.Ord.cmp fault g.met.R.FaultKind.ties keys c.args.key).1 among)) in
    unseen_twice c.add_key-2.result (map fault keys) (map fault c.args.twice.now.keys) (fault c.args.key) fresh
