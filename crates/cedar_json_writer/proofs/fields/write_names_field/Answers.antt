use Rattle.std.proofs.Common.{◌≡◌, ◌+◌, ◌∷◌, None, drop, drop_of_length-le, map, subst}
use Rattle.cedar_ast.proofs.Basics.{OnOk-map}
use Rattle.cedar_ast.proofs.TreeLemmas.{drop-at}
use Rattle.cedar_json_writer.proofs.WritingLemmas.{array_added, field_added, item_turn}
use Rattle.cedar_json_writer.proofs.WrittenNames.{name_item, names_added}
use Rattle.cedar_json_writer.proofs.fields.write_names_field.Goals as goal
use Rattle.cedar_json_writer.specs.Words.{AddsValue, Entity, PlainName, name_text, raw_reference, reference_array}
use Rattle.json.specs.Json.{string}

pub loop-name-preserved : goal.loop-name-preserved
loop-name-preserved c =
    let l = c.loop-name in
    let xs = c.deref-name-items.result.now in
    let x = c.name-item.result in
    let here : drop l.name-index xs ≡ x ∷ drop (l.name-index + 1) xs = drop-at xs l.name-index x c.loop-name-test.true c.name-item.is in
    let added = subst (λ (n : PlainName). AddsValue l.out c.write_name.new.out (string (name_text n))) c.as_internal.ensures.name c.in_ok-write_name.ensures in
    item_turn name_item _ l.out c.write_name.new.out xs (drop l.name-index xs) (drop (l.name-index + 1) xs) x l.invariant here added

pub returns : goal.returns
returns c =
    let l = c.loop-name in
    let xs = c.deref-name-items.result.now in
    OnOk-map c.token-3.result c.token-3.ensures.ok (λ ended. field_added c.args.out.now c.token.new.self c.token-3.new.self c.args.field.now
    (reference_array (map (raw_reference None Entity) c.args.names.now.items)) c.in_ok-token.ensures.ok
    (names_added c.token.new.self c.token-3.new.self xs c.args.names.now.items c.deref-name-items.ensures.value
    (array_added name_item c.token.new.self c.token-2.new.self l.out c.token-3.new.self xs (drop l.name-index xs) l.invariant
    (drop_of_length-le xs c.loop-name-test.false) c.in_ok-token-2.ensures.ok ended)))
