use Rattle.std.proofs.Common.{◌≡◌, ◌<◌, ◌∙◌, ℕ, List, [], ap, get_or, length, subst, sym, rules}
use Rattle.std.proofs.lemmas.Result.{on_ok_weaker}
use Rattle.std.specs.Borrow.{Bor}
use Rattle.cedar_cli.proofs.Places.{index_of}
use Rattle.cedar_cli.proofs.Weights.{all_weighed, item_has, item_weight, items_written, member_has, member_more, members_written, place_weight}
use Rattle.cedar_cli.proofs.layout.+laying_out.Goals as goal
use Rattle.cedar_cli.specs.declared.shape.Place.{Place}
use Rattle.json.proofs.Trees.{item_smaller, member_smaller}
use Rattle.json.specs.Tree.{HasNumbers, items_tokens, json_tokens, members_tokens}
use Rattle.json.specs.Value.{items_view, members_view, value_view}

-- one item has fewer tokens than all items, so the writing ends, and its number texts are numbers
pub write_items-write-requires : goal.write_items-write-requires
write_items-write-requires t c =
    let xs = c.args.items.now.items in
    let x = c.item-item.result in
    let is : x ≡ get_or xs c.loop-item.item-index x = c.item-item.is ∙ ap (λ ys. get_or ys c.loop-item.item-index x) c.deref-item-items.ensures.value in
    let within : c.loop-item.item-index < length xs = search rules in
    let smaller : length (json_tokens (value_view x)) < length (items_tokens (items_view xs)) =
    subst (λ y. length (json_tokens (value_view y)) < length (items_tokens (items_view xs))) (sym is) (item_smaller xs c.loop-item.item-index x within) in
    let has : HasNumbers (value_view x) = subst (λ y. HasNumbers (value_view y)) (sym is) (item_has xs c.requires c.loop-item.item-index x within) in
    search rules

-- where no item is left, the tokens of the whole array were written, and no others
pub write_items-returns : goal.write_items-returns
write_items-returns t c =
    on_ok_weaker c.token-2.result
    (λ ended. items_written c.args.pretty.now c.token.new.self c.loop-item.pretty c.token-2.new.self c.args.items.now.items
    c.in_ok-token.ensures.ok ended
    (λ weight. all_weighed (item_weight weight) _ _ _ _ c.loop-item.item-index (search rules) c.deref-item-items.ensures.value
    (c.loop-item.invariant weight)))
    c.token-2.ensures.ok

-- the place that stands for none
abbrev none : Place
none = let text : Bor (List ℕ) = record { ref_ptr = (0, 0); now = [] } in record { rank = 0; name = text; path = text; index = 0 }

-- one value has fewer tokens than all members, so the writing ends, and its number texts are
-- numbers
pub write_members-write-requires : goal.write_members-write-requires
write_members-write-requires t c =
    let ms = c.args.members.now.items in
    let m = c.index-member.result.now in
    let i : ℕ = (get_or c.deref-place-items.result.now c.loop-place.place-index none).index in
    let within : i < length ms =
    subst (λ places. (get_or places c.loop-place.place-index none).index < length ms) (sym c.deref-place-items.ensures.value)
    (c.in_ok-order.ensures.within c.loop-place.place-index none (search rules)) in
    let is : m ≡ get_or ms i m = c.index-member.ensures in
    let smaller : length (json_tokens (value_view m.1)) < length (members_tokens (members_view ms)) =
    subst (λ other. length (json_tokens (value_view other.1)) < length (members_tokens (members_view ms))) (sym is) (member_smaller ms i m within) in
    let has : HasNumbers (value_view m.1) = subst (λ other. HasNumbers (value_view other.1)) (sym is) (member_has ms c.requires i m within) in
    search rules

-- a member that was written weighs what its place does
pub write_members-loop-place-preserved : goal.write_members-loop-place-preserved
write_members-loop-place-preserved t c =
    let places = c.deref-place-items.result.now in
    let within = subst (λ places. (get_or places c.loop-place.place-index none).index < length c.args.members.now.items) (sym c.deref-place-items.ensures.value)
    (c.in_ok-order.ensures.within c.loop-place.place-index none (search rules)) in
    λ weight. member_more index_of weight _ places c.loop-place.place-index none c.index-member.result.now c.loop-place.pretty
    c.token-in-loop-place.new.self c.write.new.pretty _ (search rules) within c.index-member.ensures
    c.in_ok-token-2.ensures.ok c.in_ok-write.ensures (c.loop-place.invariant weight)

-- where no member is left, the tokens of the whole object were written, in some order, and no
-- others
pub write_members-returns : goal.write_members-returns
write_members-returns t c =
    on_ok_weaker c.token-2.result
    (λ ended. members_written index_of c.args.pretty.now c.token.new.self c.loop-place.pretty c.token-2.new.self c.args.members.now.items
    c.in_ok-order.order.items c.in_ok-order.ensures.order c.in_ok-order.ensures.within
    c.in_ok-token.ensures.ok ended
    (λ weight. all_weighed (place_weight index_of weight c.args.members.now.items) _ _ _ _ c.loop-place.place-index (search rules)
    c.deref-place-items.ensures.value (c.loop-place.invariant weight)))
    c.token-2.ensures.ok
