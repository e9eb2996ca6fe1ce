use Rattle.std.proofs.Common.{◌≡◌, ◌+◌, ◌∷◌, List, ℕ, drop, drop_of_length-le, ap, ◌∙◌, ◌++◌, []}
use Rattle.cedar_ast.proofs.Basics.{OnOk-map}
use Rattle.cedar_ast.proofs.TreeLemmas.{drop-at}
use Rattle.cedar_json_writer.proofs.WritingLemmas.{item_turn, items_ended}
use Rattle.cedar_json_writer.proofs.WrittenNames.{id_item, ids_added}
use Rattle.cedar_json_writer.proofs.fields.write_more_ids.Goals as goal
use Rattle.json.specs.Token.{string}

pub loop-id-preserved : goal.loop-id-preserved
loop-id-preserved c =
    let l = c.loop-id in
    let xs = c.deref-id-items.result.now in
    let x = c.id-item.result in
    let here : drop l.id-index xs ≡ x ∷ drop (l.id-index + 1) xs = drop-at xs l.id-index x c.loop-id-test.true c.id-item.is in
    item_turn id_item _ l.out c.token.new.self xs (drop l.id-index xs) (drop (l.id-index + 1) xs) x l.invariant here
    (c.in_ok-token.ensures.ok ∙ ap (λ (id : List ℕ). l.out ++ string id ∷ []) c.as_str.ensures)

pub returns : goal.returns
returns c =
    let l = c.loop-id in
    let xs = c.deref-id-items.result.now in
    OnOk-map c.token-2.result c.token-2.ensures.ok (λ ended. ids_added c.args.out.now c.token-2.new.self xs c.args.ids.now.items c.deref-id-items.ensures.value
    (items_ended id_item c.args.out.now l.out c.token-2.new.self xs (drop l.id-index xs) l.invariant
    (drop_of_length-le xs c.loop-id-test.false) ended))
