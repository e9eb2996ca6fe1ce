use Rattle.std.proofs.Common.{◌≡◌, true, [], ◌∷◌, ◌++◌, ap, append_assoc, length, map, refl, rules, sym, ◌∙◌}
use Rattle.std.proofs.lemmas.Cmp.{eq_by_cmp_equiv}
use Rattle.std.proofs.lemmas.Fn.{says_at}
use Rattle.std.proofs.lemmas.Iterator.{items_from_drains}
use Rattle.std.proofs.lemmas.Iterator.Adapters.{YieldsList-from_vec}
use Rattle.std.proofs.lemmas.List.{append-nil, map-append, map-id}
use Rattle.std.proofs.lemmas.Map.Iter.{iter_end}
use Rattle.std.proofs.lemmas.Result.{IfOk-at_ok}
use Rattle.std.specs.Fn.{FnReturnsAt}
use Rattle.std.specs.List.{list_any}
use Rattle.std.specs.Map.Iter.{deref}
use Rattle.std.specs.Ordering.{eq_by_cmp, is_eq}
use Rattle.std.specs.declared.cmp.Ordering.TheVariants.{Equal}
use Rattle.cedar_schema_elements.proofs.SetLemmas.{AnswersAlike-push}
use Rattle.cedar_schema_elements.proofs.sets.joined.Goals as goal

pub loop-item-init : goal.loop-item-init
loop-item-init g c = λ q. ap (list_any (eq_by_cmp g.K.Ord.cmp q)) (sym (append-nil c.args.keys.items))

pub loop-item-preserved : goal.loop-item-preserved
loop-item-preserved g c =
    let cmp = g.K.Ord.cmp in
    let item = c.in-Some.item.now in
    let answered : FnReturnsAt g.F.Fn c.args.copy item c.copy.result = says_at g.F.Fn c.copy.ensures refl in
    let same : eq_by_cmp cmp c.in_ok-copy.field-0 item ≡ true =
    ap is_eq (IfOk-at_ok (λ other. cmp other item ≡ Equal) c.in_ok-copy.was (c.requires.equal item c.copy.result answered)) in
    let yielded = map deref c.loop-item.yielded in
    let more : (c.args.keys.items ++ yielded) ++ item ∷ [] ≡ c.args.keys.items ++ map deref (c.loop-item.yielded ++ c.in-Some.item ∷ []) =
    append_assoc c.args.keys.items yielded (item ∷ [])
    ∙ ap (λ items. c.args.keys.items ++ items) (sym (map-append deref c.loop-item.yielded (c.in-Some.item ∷ []))) in
    λ q. ap (list_any (eq_by_cmp cmp q)) c.in_ok-push.ensures.items
    ∙ AnswersAlike-push (eq_by_cmp_equiv g.met.K.Ord.total) (c.args.keys.items ++ yielded) c.loop-item.all.items item c.in_ok-copy.field-0
    c.loop-item.invariant same q
    ∙ ap (list_any (eq_by_cmp cmp q)) more

-- the set is made of all that was gathered
pub returns-clause-keys : goal.returns-clause-keys
returns-clause-keys g c =
    let items = c.loop-item.all.items in
    let ran = c.in_ok-from_iter.ensures.ran in
    let same : ran.1 ≡ items = sym (map-id ran.1)
    ∙ items_from_drains ran.1 ran.3 (YieldsList-from_vec items ran.2.0 (ran.0.rest.ok.0 ∙ ap length ran.2.0)) in
    let all : map deref c.loop-item.yielded ≡ c.args.items.now.keys = search (rules, iter_end) in
    λ key. let is_key = eq_by_cmp g.K.Ord.cmp key in
    ran.4.0 key ∙ ap (list_any is_key) same ∙ c.loop-item.invariant key
    ∙ ap (list_any is_key) (ap (λ shown. c.args.keys.items ++ shown) all)
