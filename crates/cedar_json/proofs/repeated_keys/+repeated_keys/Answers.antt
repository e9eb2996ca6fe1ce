use Rattle.std.proofs.Common.{Some, ap, option_and_then, subst, sym}
use Rattle.cedar_json.proofs.FieldLemmas.{nth_member-is}
use Rattle.cedar_json.proofs.ListLemmas.{get_item-is, items_from_index}
use Rattle.cedar_json.proofs.TypeLemmas.{members_from_index}
use Rattle.cedar_json.proofs.repeated_keys.+repeated_keys.Goals as goal
use Rattle.json.specs.Json.{array, object}
use Rattle.json.specs.Strict.{ItemsHaveUniqueKeys, MembersHaveUniqueKeys}
use Rattle.json.specs.Value.{items_view, members_view, value_view}

pub check_items-returns-in-Err : goal.check_items-returns-in-Err
check_items-returns-in-Err t c =
    let x = c.item-item.result in
    let here = get_item-is c.deref-item-items.result.now c.args.items.now.items c.loop-index.index x c.deref-item-items.ensures.value
    c.loop-index-test.true c.item-item.is in
    c.behind.ensures (array (items_view c.args.items.now.items)) (value_view x) here c.in-Err.ensures

pub check_members-returns-in-Err : goal.check_members-returns-in-Err
check_members-returns-in-Err t c =
    let x = c.member-item.result in
    let here = nth_member-is c.deref-member-items.result.now c.args.members.now.items c.loop-index.index x c.deref-member-items.ensures.value
    c.loop-index-test.true c.member-item.is in
    c.behind.ensures (object (members_view c.args.members.now.items)) (value_view x.1) (ap (option_and_then (λ m. Some m.1)) here) c.in-Err.ensures

-- one more item has each key once
pub check_items-loop-index-preserved : goal.check_items-loop-index-preserved
check_items-loop-index-preserved t c =
    let x = c.item-item.result in
    let here = items_from_index c.deref-item-items.result.now c.args.items.now.items c.loop-index.index x c.deref-item-items.ensures.value
    c.loop-index-test.true c.item-item.is in
    λ rest. c.loop-index.invariant (subst (λ items. ItemsHaveUniqueKeys (items_view items)) (sym here) (c.in-Ok.ensures, rest))

-- what one more member holds has each key once
pub check_members-loop-index-preserved : goal.check_members-loop-index-preserved
check_members-loop-index-preserved t c =
    let x = c.member-item.result in
    let here = members_from_index c.deref-member-items.result.now c.args.members.now.items c.loop-index.index x c.deref-member-items.ensures.value
    c.loop-index-test.true c.member-item.is in
    λ rest. c.loop-index.invariant (subst (λ members. MembersHaveUniqueKeys (members_view members)) (sym here) (c.in-Ok.ensures, rest))
