use Rattle.std.proofs.Common.{◌≡◌, ◌+◌, ◌∷◌, Global, OnOk, Option, codes, drop, drop_of_length-le, map, option_map, subst, sym}
use Rattle.std.specs.declared.vec.Vec.{Vec}
use Rattle.cedar_ast.proofs.Basics.{OnOk-map}
use Rattle.cedar_ast.proofs.TreeLemmas.{drop-at}
use Rattle.cedar_json_writer.proofs.WritingLemmas.{array_added, field_added, item_turn}
use Rattle.cedar_json_writer.proofs.WrittenNames.{parent_item, parents_added}
use Rattle.cedar_json_writer.proofs.actions.write_member_of_field.Goals as goal
use Rattle.cedar_json_writer.specs.Words.{ActionEntityUID, AddsField, RawName, parent_array, written_parent}

pub loop-parent-preserved : goal.loop-parent-preserved
loop-parent-preserved c =
    let l = c.loop-parent in
    let xs = c.deref-parent-items.result.now in
    let x = c.parent-item.result in
    let here : drop l.parent-index xs ≡ x ∷ drop (l.parent-index + 1) xs = drop-at xs l.parent-index x c.loop-parent-test.true c.parent-item.is in
    item_turn parent_item _ l.out c.write_parent.new.out xs (drop l.parent-index xs) (drop (l.parent-index + 1) xs) x l.invariant here
    c.in_ok-write_parent.ensures

pub returns : goal.returns
returns c =
    let l = c.loop-parent in
    let xs = c.deref-parent-items.result.now in
    subst (λ (o : Option (Vec (ActionEntityUID RawName) Global)). OnOk c.token-3.result (AddsField c.args.out.now c.token-3.new.self (codes "memberOf")
    (option_map parent_array (option_map (λ parents. map written_parent parents.items) o)))) (sym c.in-Some.is)
    (OnOk-map c.token-3.result c.token-3.ensures.ok (λ ended. field_added c.args.out.now c.token.new.self c.token-3.new.self (codes "memberOf") (parent_array (map written_parent c.in-Some.parents.items))
    c.in_ok-token.ensures.ok
    (parents_added c.token.new.self c.token-3.new.self xs c.in-Some.parents.items c.deref-parent-items.ensures.value
    (array_added parent_item c.token.new.self c.token-2.new.self l.out c.token-3.new.self xs (drop l.parent-index xs) l.invariant
    (drop_of_length-le xs c.loop-parent-test.false) c.in_ok-token-2.ensures.ok ended))))
