use Rattle.std.proofs.Common.{◌≡◌, ◌++◌, [], ◌∷◌, Some}
use Rattle.std.proofs.lemmas.Result.{err_from_is_err_and}
use Rattle.cedar_json.proofs.ListLemmas.{all_made, get_item-is, item_more, items_from_index, no_item}
use Rattle.cedar_json.proofs.ReadLemmas.{read_inside, refused_inside}
use Rattle.cedar_json.proofs.from_json.read_items.Goals as goal
use Rattle.json.specs.Find.{at}
use Rattle.json.specs.Json.{array}
use Rattle.json.specs.Value.{items_view, value_view}

-- where one item describes nothing, all together describe nothing, and the fault of the item is
-- found in the array at the index of the item
pub returns-in_err-push_read : goal.returns-in_err-push_read
returns-in_err-push_read g c =
    let is = g.T.Described in
    let x = c.item-item.result in
    let items = c.deref-item-items.result.now in
    let all = c.args.items.now.items in
    let i = c.loop-index.index in
    let same = c.deref-item-items.ensures.value in
    let here = items_from_index items all i x same c.loop-index-test.true c.item-item.is in
    let found = get_item-is items all i x same c.loop-index-test.true c.item-item.is in
    let p = err_from_is_err_and c.from_residual-in_err-push_read.result c.from_residual-in_err-push_read.ensures.1 in
    let refused = refused_inside c.read.result (value_view x) (is.describes (value_view x)) is.shown (array (items_view all))
    (λ j k. at i j ≡ Some k) c.in_err-push_read.field-0.0 c.read.ensures c.in_err-push_read.ensures found in
    rw (p.1, p.2) (λ other. no_item is.describes is.shown all i x c.loop-index.all.items here c.loop-index.invariant (refused.0 other), refused.1)

-- one more item is read
pub loop-index-preserved : goal.loop-index-preserved
loop-index-preserved g c =
    let is = g.T.Described in
    let x = c.item-item.result in
    let all = c.args.items.now.items in
    let here = items_from_index c.deref-item-items.result.now all c.loop-index.index x c.deref-item-items.ensures.value c.loop-index-test.true
    c.item-item.is in
    let more = read_inside c.read.result (value_view x) (is.describes (value_view x)) is.shown
    (λ it. c.push_read.new.all.items ≡ c.loop-index.all.items ++ it ∷ []) c.read.ensures c.in_ok-push_read.ensures in
    item_more is.describes is.shown all c.loop-index.index x c.loop-index.all.items here c.loop-index.invariant more.0 c.push_read.new.all.items
    more.1 more.2

-- where no item is left, all were read
pub returns : goal.returns
returns g c =
    all_made g.T.Described.describes g.T.Described.shown c.deref-item-items.result.now c.args.items.now.items c.loop-index.index c.loop-index.all.items
    c.deref-item-items.ensures.value c.loop-index-test.false c.loop-index.invariant
