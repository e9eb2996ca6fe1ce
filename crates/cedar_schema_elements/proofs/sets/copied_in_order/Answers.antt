use Rattle.std.proofs.Common.{◌≡◌, true, [], ◌∷◌, ap, map, refl, rules}
use Rattle.std.proofs.lemmas.Cmp.{eq_by_cmp_equiv}
use Rattle.std.proofs.lemmas.Fn.{says_at}
use Rattle.std.proofs.lemmas.List.{map-append}
use Rattle.std.proofs.lemmas.Map.Iter.{iter_end}
use Rattle.std.proofs.lemmas.Result.{IfOk-at_ok}
use Rattle.std.specs.Fn.{FnReturnsAt}
use Rattle.std.specs.Map.Iter.{deref}
use Rattle.std.specs.Ordering.{eq_by_cmp, is_eq}
use Rattle.std.specs.declared.cmp.Ordering.TheVariants.{Equal}
use Rattle.cedar_schema_elements.proofs.SetLemmas.{AnswersAlike-insert}
use Rattle.cedar_schema_elements.proofs.sets.copied_in_order.Goals as goal

pub loop-item-preserved : goal.loop-item-preserved
loop-item-preserved g c =
    let cmp = g.K.Ord.cmp in
    let item = c.in-Some.item.now in
    let answered : FnReturnsAt g.F.Fn c.args.copy item c.copy.result = says_at g.F.Fn c.copy.ensures refl in
    let same : eq_by_cmp cmp c.in_ok-copy.field-0 item ≡ true =
    ap is_eq (IfOk-at_ok (λ other. cmp other item ≡ Equal) c.in_ok-copy.was (c.requires.equal item c.copy.result answered)) in (
      rw (map-append deref c.loop-item.yielded (c.in-Some.item ∷ [])) (AnswersAlike-insert (eq_by_cmp_equiv g.met.K.Ord.total) (map deref c.loop-item.yielded)
          c.loop-item.set.keys c.insert.new.self.keys item c.in_ok-copy.field-0 c.loop-item.invariant.0 same c.in_ok-insert.ensures.updates.0),
      c.insert.ensures.ordered,
    )

pub returns-clause-keys : goal.returns-clause-keys
returns-clause-keys g c =
    let all : map deref c.loop-item.yielded ≡ c.args.items.now.keys = search (rules, iter_end) in
    rw all at c.loop-item.invariant.0
