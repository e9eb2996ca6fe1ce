use Rattle.std.proofs.Common.{◌≡◌, ◌+◌, drop, ap, ◌∙◌, string_bytes}
use Rattle.std.proofs.lemmas.Str.{IsUtf8-string_bytes}
use Rattle.cedar_ast.proofs.TreeLemmas.{drop-at, tree_of-call, tree_of-record, tree_of-uid}
use Rattle.cedar_ast.proofs.ValueCopies.{copied_at, copied_more, entries_all, entries_more, texts_sorted, tree_of-text, uid_real}
use Rattle.cedar_ast.proofs.ValueLemmas.{IsName-plain_name}
use Rattle.cedar_ast.proofs.value_copies.+copying.Goals as goal
use Rattle.cedar_ast.specs.Words.{call_value, entries_of, map_value, plain_name, text_value, tree_of, trees_of, uid_of, uid_value}

-- the copy of the next element is put after those before
pub copy_each-loop-value-preserved : goal.copy_each-loop-value-preserved
copy_each-loop-value-preserved t c =
    let all = c.args.values.now in
    let made = c.loop-value.copies.items in
    let rest = drop (c.loop-value.value-index + 1) all in
    let so_far = rw (drop-at _ c.loop-value.value-index c.value-item.result c.loop-value-test.true c.value-item.is) at c.loop-value.invariant in
    rw c.in_ok-push.ensures.items (copied_more all made rest c.value-item.result c.in_ok-copy_of.field-0 so_far c.in_ok-copy_of.ensures)

-- the copy of the next entry is put in
pub copy_entries-loop-name-preserved : goal.copy_entries-loop-name-preserved
copy_entries-loop-name-preserved t c =
    let all = c.args.values.now.entries in
    let made = c.loop-name.copies.entries in
    rw c.in_ok-put.ensures (entries_more all made c.loop-name.name-iterator c.next.new.self c.in-Some.name.now c.in_ok-clone.field-0 c.in-Some.value.now c.in_ok-copy.copy
    (texts_sorted all c.into_iter-name-iterator.ensures.into_iter_gives.5) c.in-Some.ensures.steps c.in_ok-clone.ensures.cases
    c.in_ok-copy.ensures c.loop-name.invariant)

-- where no entry is left, all are copied
pub copy_entries-returns : goal.copy_entries-returns
copy_entries-returns t c =
    let all = c.args.values.now.entries in
    entries_all all c.loop-name.copies.entries c.loop-name.name-iterator c.in-None.ensures.steps.0
    (texts_sorted all c.into_iter-name-iterator.ensures.into_iter_gives.5) c.loop-name.invariant

-- the copy of each kind of value is of that kind: a text
pub copy_of-returns-in_ok-clone-in-String : goal.copy_of-returns-in_ok-clone-in-String
copy_of-returns-in_ok-clone-in-String t c =
    let text = c.in-String.text in
    let copy = c.in_ok-clone-in-String.field-0 in
    copied_at (text_value (string_bytes text)) (text_value (string_bytes copy)) _ _ (ap tree_of c.in-String.is ∙ tree_of-text text) (tree_of-text copy)
    (ap text_value c.in_ok-clone-in-String.ensures.cases, IsUtf8-string_bytes copy)

-- a uid
pub copy_of-returns-in_ok-clone-in-EntityUid : goal.copy_of-returns-in_ok-clone-in-EntityUid
copy_of-returns-in_ok-clone-in-EntityUid t c =
    let uid = c.in-EntityUid.uid in
    let copy = c.in_ok-clone-in-EntityUid.field-0 in
    copied_at (uid_value (uid_of uid)) (uid_value (uid_of copy)) _ _ (ap tree_of c.in-EntityUid.is ∙ tree_of-uid uid) (tree_of-uid copy)
    (ap uid_value c.in_ok-clone-in-EntityUid.ensures.uid, uid_real copy)

-- a record
pub copy_of-returns-in_ok-copy_entries-in-Record :
    goal.copy_of-returns-in_ok-copy_entries-in-Record
copy_of-returns-in_ok-copy_entries-in-Record t c =
    let values = c.in-Record.values in
    let copies = c.in_ok-copy_entries-in-Record.field-0 in
    let copied = c.in_ok-copy_entries-in-Record.ensures in
    copied_at (map_value (entries_of values)) (map_value (entries_of copies)) _ _ (ap tree_of c.in-Record.is ∙ tree_of-record values)
    (tree_of-record copies) (ap map_value copied.0, copied.1)

-- a call
pub copy_of-returns-in_ok-function-in-ExtensionCall :
    goal.copy_of-returns-in_ok-function-in-ExtensionCall
copy_of-returns-in_ok-function-in-ExtensionCall t c =
    let function = c.in-ExtensionCall.function in
    let args = c.in-ExtensionCall.args in
    let named = c.in_ok-function-in-ExtensionCall.function in
    let copies = c.in_ok-args-in-ExtensionCall.args in
    let copied = rw c.deref-in-ExtensionCall.ensures.value at c.in_ok-args-in-ExtensionCall.ensures in
    let call : call_value (plain_name named) (trees_of copies.items) ≡ call_value (plain_name function) (trees_of args.items) =
    λ i. call_value (c.in_ok-function-in-ExtensionCall.ensures.name i) (copied.0 i) in
    copied_at (call_value (plain_name function) (trees_of args.items)) (call_value (plain_name named) (trees_of copies.items)) _ _
    (ap tree_of c.in-ExtensionCall.is ∙ tree_of-call function args) (tree_of-call named copies)
    (call, (IsName-plain_name named, copied.1))
