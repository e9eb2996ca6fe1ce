use Rattle.std.proofs.Common.{◌≡◌, IsTrue, [], ◌∷◌, map, refl, rules}
use Rattle.std.proofs.lemmas.Fn.{says_at}
use Rattle.std.proofs.lemmas.List.{map-append}
use Rattle.std.proofs.lemmas.Map.Iter.{iter_end}
use Rattle.std.proofs.lemmas.Result.{IfOk-at_ok}
use Rattle.std.specs.Fn.{FnReturnsAt}
use Rattle.std.specs.Map.Iter.{deref}
use Rattle.cedar_schema_elements.proofs.SetLemmas.{AnswersAlike-insert}
use Rattle.cedar_schema_elements.proofs.sets.copied.Goals as goal

pub loop-item-preserved : goal.loop-item-preserved
loop-item-preserved g c =
    let eq = g.K.PartialEq.eq in
    let item = c.in-Some.item.now in
    let answered : FnReturnsAt g.F.Fn c.args.copy item c.copy.result = says_at g.F.Fn c.copy.ensures refl in
    let same : IsTrue (eq c.in_ok-copy.field-0 item) =
    IfOk-at_ok (λ other. IsTrue (eq other item)) c.in_ok-copy.was (c.requires.equal item c.copy.result answered) in
    rw (map-append deref c.loop-item.yielded (c.in-Some.item ∷ [])) (AnswersAlike-insert g.met.K.Eq.laws (map deref c.loop-item.yielded) c.loop-item.set.keys c.insert.new.self.keys
    item c.in_ok-copy.field-0 c.loop-item.invariant same c.in_ok-insert.ensures.updates.0)

pub returns : goal.returns
returns g c =
    let all : map deref c.loop-item.yielded ≡ c.args.items.now.keys = search (rules, iter_end) in
    rw all at c.loop-item.invariant
