use Rattle.std.proofs.Common.{◌≡◌, ◌++◌, [], ◌∷◌, ◌+◌, ◌*◌, ◌<◌, FitsSigned, w64, length, Some, ap, codes, option_and_then, option_map, subst, sym, ◌∙◌, arith, rules}
use Rattle.std.proofs.lemmas.Result.{err_from_is_err_and}
use Rattle.cedar_ast.proofs.TreeLemmas.{tree_of-set, tree_of-uid}
use Rattle.cedar_json.proofs.FieldLemmas.{get-smaller, nth_member-is}
use Rattle.cedar_json.proofs.ListLemmas.{get_item-is, items_from_index}
use Rattle.cedar_json.proofs.ReadLemmas.{made, read_inside, refused_inside}
use Rattle.cedar_json.proofs.TypeLemmas.{described_too, members_from_index}
use Rattle.cedar_json.proofs.ValueLemmas.{all_pairs, all_values, array_is, array_row, call_no_argument, call_no_function, call_read, no_long, no_pair, no_value, null_is, null_row, number_read, number_row, pair_more, record_read, sole_held-get, sole_held-smaller, text_row, truth_row, value_more, value_of-call, value_of-entity, value_of-record}
use Rattle.cedar_json.proofs.value_reading.+value_reading.Goals as goal
use Rattle.cedar_json.specs.Words.{IsPutUnder, IsTrueOf, call_value, member_at, no_tree, number_value, plain_name, record_of_pairs, set_value, tree, tree_of, uid_value, value_of}
use Rattle.json.proofs.Trees.{item_smaller, member_smaller}
use Rattle.json.specs.Find.{at}
use Rattle.json.specs.Json.{array, object}
use Rattle.json.specs.Tree.{items_tokens, json_tokens, members_tokens}
use Rattle.json.specs.Value.{items_view, members_view, value_view}

-- a value describes no call where it calls no function
pub read_call-returns-in_err-function : goal.read_call-returns-in_err-function
read_call-returns-in_err-function t c =
    let p = err_from_is_err_and c.from_residual.result c.from_residual.ensures.1 in
    rw (p.1, p.2) (λ other. call_no_function (value_view c.args.value.now) (c.in_err-function.ensures.0 other), c.in_err-function.ensures.1)

-- a value describes no call where it has no field `arg`
pub read_call-returns-in_err-field : goal.read_call-returns-in_err-field
read_call-returns-in_err-field t c =
    let p = err_from_is_err_and c.from_residual-in_err-field.result c.from_residual-in_err-field.ensures.1 in
    rw (p.1, p.2) (λ other. call_no_argument (value_view c.args.value.now) (ap (option_and_then value_of) c.in_err-field.ensures.0), c.in_err-field.ensures.1)

-- the argument has fewer tokens than the whole value, so the reading ends
pub read_call-read_expr-requires : goal.read_call-read_expr-requires
read_call-read_expr-requires t c =
    let below : length (json_tokens (value_view c.in_ok-field.field-0.now)) < length (json_tokens (value_view c.args.value.now)) =
    get-smaller (codes "arg") _ _ c.in_ok-field.ensures in
    let smaller : 4 * length (json_tokens (value_view c.in_ok-field.field-0.now)) < 4 * length (json_tokens (value_view c.args.value.now)) + 1 =
    omega (arith, below) in
    search rules

-- the call described is the function and the one argument that were read
pub read_call-returns-in-Ok : goal.read_call-returns-in-Ok
read_call-returns-in-Ok t c =
    let name = plain_name c.in_ok-function.function in
    let it = tree_of c.in-Ok.argument in
    let valued = ap (option_and_then value_of) c.in_ok-field.ensures ∙ c.in-Ok.ensures in
    made c.call_on.result (value_view c.args.value.now) tree_of (call_value name (tree it no_tree))
    (call_read (value_view c.args.value.now) name it c.in_ok-function.ensures valued) c.call_on.ensures

-- a value describes no call where its argument describes no value, and the fault of the argument is
-- found in the value under `arg`
pub read_call-returns-in-Err : goal.read_call-returns-in-Err
read_call-returns-in-Err t c =
    let j = value_view c.args.value.now in (
      λ other. call_no_argument j (ap (option_and_then value_of) c.in_ok-field.ensures ∙ c.in-Err.ensures.0 (c.within.ensures.memory other)),
      c.within.ensures.place j (value_view c.in_ok-field.field-0.now) c.in_ok-field.ensures c.in-Err.ensures.1,
    )

-- `null` describes no value
pub read_expr-returns-in-Null : goal.read_expr-returns-in-Null
read_expr-returns-in-Null t c = (
  λ _. null_row c.args.value.now c.in-Null.is,
  c.here.ensures.place (value_view c.args.value.now) (null_is c.args.value.now c.in-Null.is),
)

-- `true` and `false` describe the booleans
pub read_expr-returns-in-Bool : goal.read_expr-returns-in-Bool
read_expr-returns-in-Bool t c = truth_row c.args.value.now c.in-Bool.flag c.in-Bool.is

-- a whole number of 64 bits describes a long
pub read_expr-returns-in-Some : goal.read_expr-returns-in-Some
read_expr-returns-in-Some t c =
    let fits : FitsSigned w64 c.in-Some.number = search rules in
    number_row c.args.value.now c.in-Number.field-0 c.in-Number.is ∙ ap (option_map number_value) (sym c.in-Some.ensures)
    ∙ ap Some (number_read c.in-Some.number fits)

-- any other number describes no value
pub read_expr-returns-in-None : goal.read_expr-returns-in-None
read_expr-returns-in-None t c =
    let v = c.args.value.now in
    let s = c.in-Number.field-0 in (
      λ _. number_row v s c.in-Number.is ∙ ap (option_map number_value) (sym c.in-None.ensures),
      c.here-in-None.ensures.place (value_view v) (no_long v s c.in-Number.is c.in-None.ensures),
    )

-- a JSON string describes the string of its text
pub read_expr-returns-in_ok-from_str-in-String : goal.read_expr-returns-in_ok-from_str-in-String
read_expr-returns-in_ok-from_str-in-String t c =
    text_row c.args.value.now c.in-String.text c.in_ok-from_str-in-String.field-0 c.in-String.is c.in_ok-from_str-in-String.ensures.ok

-- an array describes the set of the values that its items describe
pub read_expr-returns-in-Array : goal.read_expr-returns-in-Array
read_expr-returns-in-Array t c =
    let v = c.args.value.now in
    described_too c.read_set.result tree_of _ _ _ _ (array_row v c.in-Array.items c.in-Array.is)
    (λ refusal true_of. subst (IsTrueOf refusal) (sym (array_is v c.in-Array.items c.in-Array.is)) true_of) c.read_set.ensures

-- one item has fewer tokens than all items, so the reading ends
pub read_set-read_expr-requires : goal.read_set-read_expr-requires
read_set-read_expr-requires t c =
    let xs = c.deref-item-items.result.now in
    let x = c.item-item.result in
    let below : length (json_tokens (value_view x)) < length (items_tokens (items_view c.args.items.now.items)) =
    subst (λ ys. length (json_tokens (value_view x)) < length (items_tokens (items_view ys))) c.deref-item-items.ensures.value
    (subst (λ y. length (json_tokens (value_view y)) < length (items_tokens (items_view xs))) (sym c.item-item.is) (item_smaller xs c.loop-index.index x c.loop-index-test.true)) in
    let smaller : 4 * length (json_tokens (value_view x)) < 4 * length (items_tokens (items_view c.args.items.now.items)) = omega (arith, below) in
    search rules

-- where one item describes no value, all together describe none, and the fault of the item is found
-- in the array at the index of the item
pub read_set-returns-in_err-push_read : goal.read_set-returns-in_err-push_read
read_set-returns-in_err-push_read t c =
    let x = c.item-item.result in
    let items = c.deref-item-items.result.now in
    let all = c.args.items.now.items in
    let i = c.loop-index.index in
    let same = c.deref-item-items.ensures.value in
    let here = items_from_index items all i x same c.loop-index-test.true c.item-item.is in
    let found = get_item-is items all i x same c.loop-index-test.true c.item-item.is in
    let p = err_from_is_err_and c.from_residual.result c.from_residual.ensures.1 in
    let refused = refused_inside c.read_expr.result (value_view x) (value_of (value_view x)) tree_of (array (items_view all))
    (λ j k. at i j ≡ Some k) c.in_err-push_read.field-0.0 c.read_expr.ensures c.in_err-push_read.ensures found in
    rw (p.1, p.2) (
      λ other. ap (option_map set_value) (no_value all i x c.loop-index.exprs.items here c.loop-index.invariant (refused.0 other)),
      refused.1,
    )

-- one more value is read and put behind those before it
pub read_set-loop-index-preserved : goal.read_set-loop-index-preserved
read_set-loop-index-preserved t c =
    let x = c.item-item.result in
    let here = items_from_index c.deref-item-items.result.now c.args.items.now.items c.loop-index.index x c.deref-item-items.ensures.value
    c.loop-index-test.true c.item-item.is in
    let more = read_inside c.read_expr.result (value_view x) (value_of (value_view x)) tree_of
    (λ it. c.push_read.new.all.items ≡ c.loop-index.exprs.items ++ it ∷ []) c.read_expr.ensures c.in_ok-push_read.ensures in
    value_more c.args.items.now.items c.loop-index.index x c.loop-index.exprs.items here c.loop-index.invariant more.0 c.push_read.new.all.items
    more.1 more.2

-- where no item is left, all values were read
pub read_set-returns : goal.read_set-returns
read_set-returns t c =
    ap (option_map set_value)
    (all_values c.deref-item-items.result.now c.args.items.now.items c.loop-index.index c.loop-index.exprs.items
    c.deref-item-items.ensures.value c.loop-index-test.false c.loop-index.invariant)
    ∙ ap Some (sym (tree_of-set c.loop-index.exprs))

-- the value of one member has fewer tokens than all members, so the reading ends
pub read_record-read_expr-read-requires : goal.read_record-read_expr-read-requires
read_record-read_expr-read-requires t c =
    let xs = c.deref-member-items.result.now in
    let x = c.member-item.result in
    let below : length (json_tokens (value_view x.1)) < length (members_tokens (members_view c.args.members.now.items)) =
    subst (λ ys. length (json_tokens (value_view x.1)) < length (members_tokens (members_view ys))) c.deref-member-items.ensures.value
    (subst (λ y. length (json_tokens (value_view y.1)) < length (members_tokens (members_view xs))) (sym c.member-item.is) (member_smaller xs c.loop-index.index x c.loop-index-test.true)) in
    let smaller : 4 * length (json_tokens (value_view x.1)) < 4 * length (members_tokens (members_view c.args.members.now.items)) + 1 = omega (arith, below) in
    search rules

-- where one member describes no value, all together describe none, and the fault of the member's
-- value is found in the object at the index of the member
pub read_record-returns-in_err-put_read : goal.read_record-returns-in_err-put_read
read_record-returns-in_err-put_read t c =
    let x = c.member-item.result in
    let items = c.deref-member-items.result.now in
    let all = c.args.members.now.items in
    let i = c.loop-index.index in
    let same = c.deref-member-items.ensures.value in
    let here = members_from_index items all i x same c.loop-index-test.true c.member-item.is in
    let found = nth_member-is items all i x same c.loop-index-test.true c.member-item.is in
    let p = err_from_is_err_and c.from_residual.result c.from_residual.ensures.1 in
    let refused = refused_inside c.read_expr-read.result (value_view x.1) (value_of (value_view x.1)) tree_of (object (members_view all))
    (λ j k. member_at i j ≡ Some (x.0.now, k)) c.in_err-put_read.field-0.0 c.read_expr-read.ensures c.in_err-put_read.ensures found in
    rw (p.1, p.2) (
      λ other. ap (option_map record_of_pairs) (no_pair tree_of all i x c.loop-index.pairs.entries here c.loop-index.invariant (refused.0 other)),
      refused.1,
    )

-- one more value is read and put under its key
pub read_record-loop-index-preserved : goal.read_record-loop-index-preserved
read_record-loop-index-preserved t c =
    let x = c.member-item.result in
    let all = c.args.members.now.items in
    let here = members_from_index c.deref-member-items.result.now all c.loop-index.index x c.deref-member-items.ensures.value c.loop-index-test.true
    c.member-item.is in
    let more = read_inside c.read_expr-read.result (value_view x.1) (value_of (value_view x.1)) tree_of
    (IsPutUnder x.0.now c.loop-index.pairs.entries c.put_read.new.all.entries) c.read_expr-read.ensures c.in_ok-put_read.ensures in
    pair_more tree_of all c.loop-index.index x c.loop-index.pairs.entries here c.loop-index.invariant more.2.0 more.0
    c.put_read.new.all.entries more.1 more.2.1 more.2.2

-- where no member is left, all values were read
pub read_record-returns : goal.read_record-returns
read_record-returns t c =
    ap (option_map record_of_pairs)
    (all_pairs tree_of c.deref-member-items.result.now c.args.members.now.items c.loop-index.index c.loop-index.pairs.entries
    c.deref-member-items.ensures.value c.loop-index-test.false c.loop-index.invariant)
    ∙ ap Some (record_read c.loop-index.pairs)

-- an object whose one key is `__entity` describes the entity of the uid that it holds
pub read_object-returns-in-Ok : goal.read_object-returns-in-Ok
read_object-returns-in-Ok t c =
    let ms = members_view c.args.members.now.items in
    value_of-entity ms (value_view c.in-Some.held.now) (sym c.in-Some.ensures) ∙ ap (option_map uid_value) c.in-Ok.ensures
    ∙ ap Some (sym (tree_of-uid c.in-Ok.uid))

-- it describes no value where what the key `__entity` holds is no uid, whose fault is found in the
-- object under `__entity`
pub read_object-returns-in-Err : goal.read_object-returns-in-Err
read_object-returns-in-Err t c =
    let ms = members_view c.args.members.now.items in
    let k = value_view c.in-Some.held.now in (
      λ other. value_of-entity ms k (sym c.in-Some.ensures)
          ∙ ap (option_map uid_value) (c.in-Err.ensures.0 (c.within.ensures.memory other)),
      c.within.ensures.place (object ms) k (sole_held-get (codes "__entity") ms k (sym c.in-Some.ensures)) c.in-Err.ensures.1,
    )

-- an object whose one key is `__extn` describes the call that it holds
pub read_object-returns-in-Ok-read_call : goal.read_object-returns-in-Ok-read_call
read_object-returns-in-Ok-read_call t c =
    let ms = members_view c.args.members.now.items in
    value_of-call ms (value_view c.in-Some-sole.held.now) (sym c.in_default.ensures) (sym c.in-Some-sole.ensures) ∙ c.in-Ok-read_call.ensures

-- it describes no value where what the key `__extn` holds is no call, whose fault is found in the
-- object under `__extn`
pub read_object-returns-in-Err-read_call : goal.read_object-returns-in-Err-read_call
read_object-returns-in-Err-read_call t c =
    let ms = members_view c.args.members.now.items in
    let k = value_view c.in-Some-sole.held.now in (
      λ other. value_of-call ms k (sym c.in_default.ensures) (sym c.in-Some-sole.ensures)
          ∙ c.in-Err-read_call.ensures.0 (c.within-in-Err-read_call.ensures.memory other),
      c.within-in-Err-read_call.ensures.place (object ms) k (sole_held-get (codes "__extn") ms k (sym c.in-Some-sole.ensures))
          c.in-Err-read_call.ensures.1,
    )

-- any other object describes the record of the values that its members describe
pub read_object-returns : goal.read_object-returns
read_object-returns t c =
    described_too c.read_record.result tree_of _ _ _ _
    (value_of-record (members_view c.args.members.now.items) (sym c.in_default.ensures) (sym c.in_default-sole.ensures))
    (λ refusal true_of. true_of) c.read_record.ensures

-- what the key `__extn` holds has fewer tokens than all members, so the reading ends
pub read_object-read_call-requires : goal.read_object-read_call-requires
read_object-read_call-requires t c =
    let ms = members_view c.args.members.now.items in
    let k = value_view c.in-Some-sole.held.now in
    let below : length (json_tokens k) < length (members_tokens ms) = sole_held-smaller (codes "__extn") ms k (sym c.in-Some-sole.ensures) in
    let smaller : 4 * length (json_tokens k) + 1 < 4 * length (members_tokens ms) + 2 = omega (arith, below) in
    search rules
