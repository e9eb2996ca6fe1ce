use Rattle.std.proofs.Common.{subst, ap, sym, ◌∙◌}
use Rattle.std.proofs.lemmas.Result.{on_ok_weaker}
use Rattle.std.specs.BTreeMap.{insert_entry}
use Rattle.cedar_json.proofs.MapBuilderLemmas.{all_put_past, all_put_push, ascending_push}
use Rattle.cedar_json.proofs.map_builder.MapBuilder.put.Goals as goal
use Rattle.cedar_json.specs.Words.{IsAscending, all_put}

-- a pair that is put at once comes behind those that wait
pub returns-then-not-self : goal.returns-then-not-self
returns-then-not-self g c =
    let cmp = g.K.Ord.cmp in
    let ready = c.make_way.new in
    on_ok_weaker c.put.result
    (λ is. ap (λ entries. all_put cmp entries ready.waiting.items) is
    ∙ all_put_past cmp g.met.K.Ord.total ready.map.entries ready.waiting.items c.args.key c.args.value
    (c.in_ok-make_way.ensures.behind c.self.invariant)
    ∙ ap (λ entries. insert_entry cmp entries c.args.key c.args.value) (c.in_ok-make_way.ensures.entries ∙ c.self.view_is)) c.put.ensures

-- so does one that waits
pub invariant_of-self-2 : goal.invariant_of-self-2
invariant_of-self-2 g c =
    let cmp = g.K.Ord.cmp in
    let ready = c.make_way.new.waiting in
    c.put_all_but.ensures.ascending (subst (λ pairs. IsAscending cmp pairs) (sym c.in_ok-push_back.ensures.items)
    (ascending_push cmp ready.items c.args.key c.args.value (c.make_way.ensures.ascending c.self.invariant)
    (c.in_ok-make_way.ensures.behind c.self.invariant)))

pub returns : goal.returns
returns g c =
    let cmp = g.K.Ord.cmp in
    let ready = c.make_way.new in
    on_ok_weaker c.put_all_but.result
    (λ is. is ∙ ap (all_put cmp ready.map.entries) c.in_ok-push_back.ensures.items
    ∙ all_put_push cmp ready.map.entries ready.waiting.items c.args.key c.args.value
    ∙ ap (λ entries. insert_entry cmp entries c.args.key c.args.value) (c.in_ok-make_way.ensures.entries ∙ c.self.view_is)) c.put_all_but.ensures.entries

-- the pairs that wait ascend where the map is out of memory
pub invariant_of-self : goal.invariant_of-self
invariant_of-self g c = c.make_way.ensures.ascending c.self.invariant

-- and where the pair is put at once
pub invariant_of-self-then-not-self : goal.invariant_of-self-then-not-self
invariant_of-self-then-not-self g c = c.make_way.ensures.ascending c.self.invariant

-- a pair that can't wait changes none that does
pub invariant_of-self-in_err-push_back : goal.invariant_of-self-in_err-push_back
invariant_of-self-in_err-push_back g c =
    subst (λ pairs. IsAscending g.K.Ord.cmp pairs) (sym c.in_err-push_back.ensures.items) (c.make_way.ensures.ascending c.self.invariant)
