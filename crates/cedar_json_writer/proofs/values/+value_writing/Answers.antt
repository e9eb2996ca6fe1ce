use Rattle.std.proofs.Common.{◌≡◌, ◌+◌, ◌++◌, ◌∷◌, [], List, ℕ, OnOk, string_bytes, ap, drop, drop_of_length-le, arith, refl, subst, sym, ◌∙◌}
use Rattle.std.proofs.lemmas.Result.{err_from_is_err_and}
use Rattle.cedar_ast.proofs.Basics.{OnOk-map}
use Rattle.cedar_ast.proofs.TreeLemmas.{drop-at, tree_of-call, tree_of-record, tree_of-uid}
use Rattle.cedar_ast.proofs.ValueCopies.{tree_of-text, tree_of-truth}
use Rattle.cedar_json_writer.proofs.WritingLemmas.{begun, checked, member_flaw, members_added, members_free, turn_by}
use Rattle.cedar_json_writer.proofs.WrittenValues.{FreeValue, argument_flaw, arity_flaw, call_added, call_free, long_added, long_free, one_item, pairs_free, pairs_shape, record_document, record_free, record_key_flaw, record_value_flaw, text_added, text_free, tree_of-long, truth_added, truth_free, uid_free, values_added, values_flaw, values_free, values_turn}
use Rattle.cedar_json_writer.proofs.values.+value_writing.Goals as goal
use Rattle.cedar_json_writer.specs.Words.{AddsValue, IsChecked, IsFlawOf, RestrictedExpr, SoundValue, Tree, call_value, entries_of, plain_name, set_value, tree_of, trees_of, value_document, value_flaws}
use Rattle.json.specs.Token.{key, string}

-- one more value is written behind those before it, and has no flaws
pub write_values-loop-value-preserved : goal.write_values-loop-value-preserved
write_values-loop-value-preserved t c =
    let l = c.loop-value in
    let xs = c.deref-value-items.result.now in
    let x = c.value-item.result in
    let here : drop l.value-index xs ≡ x ∷ drop (l.value-index + 1) xs = drop-at xs l.value-index x c.loop-value-test.true c.value-item.is in
    values_turn c.token.new.self l.out c.write_value.new.out xs (drop l.value-index xs) (drop (l.value-index + 1) xs) x l.invariant here
    c.in_ok-write_value.ensures.written c.in_ok-write_value.ensures.checked

-- where no value is left, the array has all of them
pub write_values-returns-clause-written : goal.write_values-returns-clause-written
write_values-returns-clause-written t c =
    let l = c.loop-value in
    let xs = c.deref-value-items.result.now in
    subst (λ (each : List RestrictedExpr). AddsValue c.args.out.now c.token-2.new.self (value_document (set_value (trees_of each))))
    c.deref-value-items.ensures.value
    (values_added c.args.out.now c.token.new.self l.out c.token-2.new.self xs (drop l.value-index xs) l.invariant
    (drop_of_length-le xs c.loop-value-test.false) c.in_ok-token.ensures.ok c.in_ok-token-2.ensures.ok)

-- none of the values had a flaw, so the set has none
pub write_values-returns-clause-checked : goal.write_values-returns-clause-checked
write_values-returns-clause-checked t c =
    let l = c.loop-value in
    let xs = c.deref-value-items.result.now in
    subst (λ (each : List RestrictedExpr). FreeValue (set_value (trees_of each))) c.deref-value-items.ensures.value
    (values_free c.token.new.self l.out xs (drop l.value-index xs) l.invariant (drop_of_length-le xs c.loop-value-test.false))

-- a flaw of one value is a flaw of the set
pub write_values-returns-in_err-write_value-clause-checked : goal.write_values-returns-in_err-write_value-clause-checked
write_values-returns-in_err-write_value-clause-checked t c =
    let l = c.loop-value in
    let xs = c.deref-value-items.result.now in
    let x = c.value-item.result in
    let f = c.in_err-write_value.field-0.0 in
    let here : drop l.value-index xs ≡ x ∷ drop (l.value-index + 1) xs = drop-at xs l.value-index x c.loop-value-test.true c.value-item.is in
    let p = err_from_is_err_and c.from_residual-in_err-write_value.result c.from_residual-in_err-write_value.ensures.1 in
    rw (p.1, p.2) (subst (λ (each : List RestrictedExpr). IsFlawOf (value_flaws (set_value (trees_of each))) f) c.deref-value-items.ensures.value
    (values_flaw c.token.new.self l.out xs (drop l.value-index xs) (drop (l.value-index + 1) xs) x f l.invariant here
    c.in_err-write_value.ensures.checked))

-- at first all values are left, and none is written
pub write_record_value-loop-name-init : goal.write_record_value-loop-name-init
write_record_value-loop-name-init t c = begun (pairs_shape tree_of) _ _ _ _ refl c.into_iter-name-iterator.ensures.into_iter_gives.0

-- one more value is written behind its key, and has no flaws
pub write_record_value-loop-name-preserved : goal.write_record_value-loop-name-preserved
write_record_value-loop-name-preserved t c =
    turn_by (pairs_shape tree_of) c.token.new.self c.loop-name.out c.token-in-loop-name.new.self c.write_value.new.out
    c.args.values.now.entries c.loop-name.name-iterator c.next.new.self
    (c.in-Some.name.now, c.in-Some.value.now) c.loop-name.invariant c.in-Some.ensures.steps
    (c.in_ok-token-2.ensures.ok ∙ ap (λ (text : List ℕ). c.loop-name.out ++ key text ∷ []) c.as_str.ensures.value)
    c.in_ok-write_value.ensures.written c.in_ok-write_value.ensures.checked

-- where no value is left, the object has all of them, and is the record's document
pub write_record_value-returns-clause-written : goal.write_record_value-returns-clause-written
write_record_value-returns-clause-written t c =
    OnOk-map c.close_object.result c.close_object.ensures.written
    (λ ended. subst (AddsValue c.args.out.now c.close_object.new.out) (record_document (entries_of c.args.values.now))
    (members_added (pairs_shape tree_of) c.args.out.now c.token.new.self c.loop-name.out c.close_object.new.out
    c.args.values.now.entries c.loop-name.name-iterator c.loop-name.invariant
    c.in-None.ensures.steps.0 c.in_ok-token.ensures.ok ended))

-- neither the keys nor the values have a flaw, and the keys are in order, so the record has none
pub write_record_value-returns-clause-checked : goal.write_record_value-returns-clause-checked
write_record_value-returns-clause-checked t c =
    checked c.close_object.result c.close_object.ensures.fault
    (record_free (entries_of c.args.values.now) c.in_ok-check_keys.ensures
    (pairs_free tree_of c.args.values.now.entries c.into_iter-name-iterator.ensures.into_iter_gives.5
    (members_free (pairs_shape tree_of) c.token.new.self c.loop-name.out c.args.values.now.entries c.loop-name.name-iterator c.loop-name.invariant
    c.in-None.ensures.steps.0)))

-- a flaw of the keys is a flaw of the record
pub write_record_value-returns-in_err-check_keys-clause-checked : goal.write_record_value-returns-in_err-check_keys-clause-checked
write_record_value-returns-in_err-check_keys-clause-checked t c =
    let p = err_from_is_err_and c.from_residual.result c.from_residual.ensures.1 in
    rw (p.1, p.2) (record_key_flaw (entries_of c.args.values.now) _ c.in_err-check_keys.ensures)

-- a flaw of one value is a flaw of the record
pub write_record_value-returns-in_err-write_value-clause-checked : goal.write_record_value-returns-in_err-write_value-clause-checked
write_record_value-returns-in_err-write_value-clause-checked t c =
    let f = c.in_err-write_value.field-0.0 in
    let p = err_from_is_err_and c.from_residual-in_err-write_value.result c.from_residual-in_err-write_value.ensures.1 in
    rw (p.1, p.2) (record_value_flaw (entries_of c.args.values.now) f
    (member_flaw (pairs_shape tree_of) c.token.new.self c.loop-name.out c.args.values.now.entries c.loop-name.name-iterator c.next.new.self
    (c.in-Some.name.now, c.in-Some.value.now) f c.loop-name.invariant c.in-Some.ensures.steps c.in_err-write_value.ensures.checked))

-- a boolean is written as `true` or `false`
pub write_value-returns-in_ok-token-in-Bool-clause-written : goal.write_value-returns-in_ok-token-in-Bool-clause-written
write_value-returns-in_ok-token-in-Bool-clause-written t c =
    subst (λ (value : Tree). AddsValue c.args.out.now c.token.new.self (value_document value)) (sym (ap tree_of c.in-Bool.is ∙ tree_of-truth c.in-Bool.flag))
    (truth_added c.args.out.now c.token.new.self c.in-Bool.flag c.in_ok-token-in-Bool.ensures.ok)

-- a boolean has no flaws
pub write_value-returns-in_ok-token-in-Bool-clause-checked : goal.write_value-returns-in_ok-token-in-Bool-clause-checked
write_value-returns-in_ok-token-in-Bool-clause-checked t c =
    subst FreeValue (sym (ap tree_of c.in-Bool.is ∙ tree_of-truth c.in-Bool.flag)) (truth_free c.in-Bool.flag)

-- a long is written as a number
pub write_value-returns-in-Long-clause-written : goal.write_value-returns-in-Long-clause-written
write_value-returns-in-Long-clause-written t c =
    subst (λ (value : Tree). OnOk c.write_number.result (AddsValue c.args.out.now c.write_number.new.out (value_document value)))
    (sym (ap tree_of c.in-Long.is ∙ tree_of-long c.in-Long.number))
    (OnOk-map c.write_number.result c.write_number.ensures.written (long_added c.args.out.now c.write_number.new.out c.in-Long.number))

-- a long has no flaws, as it has 64 bits
pub write_value-returns-in-Long-clause-checked : goal.write_value-returns-in-Long-clause-checked
write_value-returns-in-Long-clause-checked t c =
    subst (λ (value : Tree). IsChecked c.write_number.result (value_flaws value) (SoundValue value))
    (sym (ap tree_of c.in-Long.is ∙ tree_of-long c.in-Long.number))
    (checked c.write_number.result c.write_number.ensures.fault (long_free c.in-Long.number c.write_number.ensures.fits))

-- a string is written as a JSON string of its text
pub write_value-returns-in_ok-token-in-String-clause-written : goal.write_value-returns-in_ok-token-in-String-clause-written
write_value-returns-in_ok-token-in-String-clause-written t c =
    subst (λ (value : Tree). AddsValue c.args.out.now c.token-in-String.new.self (value_document value))
    (sym (ap tree_of c.in-String.is ∙ tree_of-text c.in-String.text))
    (text_added c.args.out.now c.token-in-String.new.self (string_bytes c.in-String.text)
    (c.in_ok-token-in-String.ensures.ok ∙ ap (λ (text : List ℕ). c.args.out.now ++ string text ∷ []) c.as_str.ensures.value))

-- a string has no flaws
pub write_value-returns-in_ok-token-in-String-clause-checked : goal.write_value-returns-in_ok-token-in-String-clause-checked
write_value-returns-in_ok-token-in-String-clause-checked t c =
    subst FreeValue (sym (ap tree_of c.in-String.is ∙ tree_of-text c.in-String.text)) (text_free (string_bytes c.in-String.text))

-- a reference to an entity is written as its uid
pub write_value-returns-in-EntityUid-clause-written : goal.write_value-returns-in-EntityUid-clause-written
write_value-returns-in-EntityUid-clause-written t c =
    subst (λ (value : Tree). OnOk c.write_entity.result (AddsValue c.args.out.now c.write_entity.new.out (value_document value)))
    (sym (ap tree_of c.in-EntityUid.is ∙ tree_of-uid c.in-EntityUid.uid)) c.write_entity.ensures.written

-- a reference to an entity has no flaws
pub write_value-returns-in-EntityUid-clause-checked : goal.write_value-returns-in-EntityUid-clause-checked
write_value-returns-in-EntityUid-clause-checked t c =
    subst (λ (value : Tree). IsChecked c.write_entity.result (value_flaws value) (SoundValue value))
    (sym (ap tree_of c.in-EntityUid.is ∙ tree_of-uid c.in-EntityUid.uid))
    (checked c.write_entity.result c.write_entity.ensures.fault (uid_free c.in-EntityUid.uid))

-- a record stands for the map of its values, which is written
pub write_value-returns-in-Record-clause-written : goal.write_value-returns-in-Record-clause-written
write_value-returns-in-Record-clause-written t c =
    subst (λ (value : Tree). OnOk c.write_record_value.result (AddsValue c.args.out.now c.write_record_value.new.out (value_document value)))
    (sym (ap tree_of c.in-Record.is ∙ tree_of-record c.in-Record.values)) c.write_record_value.ensures.written

-- a record has just the flaws of the map of its values
pub write_value-returns-in-Record-clause-checked : goal.write_value-returns-in-Record-clause-checked
write_value-returns-in-Record-clause-checked t c =
    subst (λ (value : Tree). IsChecked c.write_record_value.result (value_flaws value) (SoundValue value))
    (sym (ap tree_of c.in-Record.is ∙ tree_of-record c.in-Record.values)) c.write_record_value.ensures.checked

-- a call has just the flaws that are found of its function and its arguments
pub write_value-returns-in-ExtensionCall-clause-checked : goal.write_value-returns-in-ExtensionCall-clause-checked
write_value-returns-in-ExtensionCall-clause-checked t c =
    subst (λ (value : Tree). IsChecked c.write_call.result (value_flaws value) (SoundValue value))
    (sym (ap tree_of c.in-ExtensionCall.is ∙ tree_of-call c.in-ExtensionCall.function c.in-ExtensionCall.args)) c.write_call.ensures.checked

-- a call with no argument or with several has their number as a flaw
pub write_call-returns-then-len-ne1-clause-checked : goal.write_call-returns-then-len-ne1-clause-checked
write_call-returns-then-len-ne1-clause-checked t c =
    arity_flaw c.args.function.now c.args.args.now.items c.len-then-len-ne1.result
    (λ one. c.if-len-ne1.true (omega (arith, one, c.args.args.now.ok.0))) (omega (arith, c.args.args.now.ok.0))

-- a call is written as the name of its function and its one argument
pub write_call-returns-clause-written : goal.write_call-returns-clause-written
write_call-returns-clause-written t c =
    let argument = c.index.result.now in
    let items = c.args.args.now.items in
    let only : items ≡ argument ∷ [] = one_item items argument (omega (arith, c.args.args.now.ok.0)) c.index.ensures in
    subst (λ (each : List RestrictedExpr). OnOk c.close_call.result (AddsValue c.args.out.now c.close_call.new.out
    (value_document (call_value (plain_name c.args.function.now) (trees_of each))))) (sym only)
    (OnOk-map c.close_call.result c.close_call.ensures.written (call_added c.args.out.now c.open_call.new.out c.write_value.new.out
    c.close_call.new.out c.args.function.now argument c.in_ok-open_call.ensures c.in_ok-write_value.ensures.written))

-- where the one argument has no flaws, the call has none
pub write_call-returns-clause-checked : goal.write_call-returns-clause-checked
write_call-returns-clause-checked t c =
    let argument = c.index.result.now in
    let items = c.args.args.now.items in
    let only : items ≡ argument ∷ [] = one_item items argument (omega (arith, c.args.args.now.ok.0)) c.index.ensures in
    checked c.close_call.result c.close_call.ensures.fault
    (subst (λ (each : List RestrictedExpr). FreeValue (call_value (plain_name c.args.function.now) (trees_of each))) (sym only)
    (call_free c.args.function.now argument c.in_ok-write_value.ensures.checked))

-- a flaw of the one argument is a flaw of the call
pub write_call-returns-in_err-write_value-clause-checked : goal.write_call-returns-in_err-write_value-clause-checked
write_call-returns-in_err-write_value-clause-checked t c =
    let argument = c.index.result.now in
    let items = c.args.args.now.items in
    let f = c.in_err-write_value.field-0.0 in
    let only : items ≡ argument ∷ [] = one_item items argument (omega (arith, c.args.args.now.ok.0)) c.index.ensures in
    let p = err_from_is_err_and c.from_residual-in_err-write_value.result c.from_residual-in_err-write_value.ensures.1 in
    rw (p.1, p.2)
    (subst (λ (each : List RestrictedExpr). IsFlawOf (value_flaws (call_value (plain_name c.args.function.now) (trees_of each))) f) (sym only)
    (argument_flaw c.args.function.now argument f c.in_err-write_value.ensures.checked))
