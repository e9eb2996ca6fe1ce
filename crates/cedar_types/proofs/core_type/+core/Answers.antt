use Rattle.std.proofs.Common.{◌≡◌, ◌∙◌, refl, sym, ap, Some}
use Rattle.std.proofs.Math.ListN.{drop_of_length-le}
use Rattle.std.proofs.lemmas.Result.{err_from_is_err_and}
use Rattle.std.specs.Option.{option_map}
use Rattle.cedar_ast.proofs.TreeLemmas.{drop-at, core_ty_of-record}
use Rattle.cedar_type_rules.proofs.CompareLemmas.{is_open-eq}
use Rattle.cedar_types.proofs.CoredWalk.{cored-fault, cored-next, cored-last}
use Rattle.cedar_types.proofs.MemberParts.{ty_of-record}
use Rattle.cedar_types.proofs.core_type.+core.Goals as goal
use Rattle.cedar_types.specs.Words.{AreSortedByName, core_of, core_record, fields_of-pairs, is_open, ty_of}

-- an attribute whose type has no core type is the fault
pub core_attributes-returns-in_err-attr_type-clause-fault : goal.core_attributes-returns-in_err-attr_type-clause-fault
core_attributes-returns-in_err-attr_type-clause-fault t c =
    let all = c.as_slice-name-items.result.now in
    let item = c.loop-name-item.result in
    let so_far = rw (drop-at _ c.loop-name.name-index item c.loop-name-test.true c.loop-name-item.is) at c.loop-name.invariant in
    let p = err_from_is_err_and c.from_residual.result c.from_residual.ensures.1 in
    rw (p.1, p.2, fields_of-pairs c.args.attrs.now, sym (c.as_slice-name-items.ensures ∙ ap (λ held. held.entries.items) c.deref.ensures))
    (cored-fault all item _ c.loop-name.core.entries so_far c.in_err-attr_type.field-0.0
    (rw c.deref-in-loop-name.ensures at c.in_err-attr_type.ensures.fault))

-- the core type of the next attribute is put in
pub core_attributes-loop-name-preserved : goal.core_attributes-loop-name-preserved
core_attributes-loop-name-preserved t c =
    let all = c.as_slice-name-items.result.now in
    let item = c.loop-name-item.result in
    let so_far = rw (drop-at _ c.loop-name.name-index item c.loop-name-test.true c.loop-name-item.is) at c.loop-name.invariant in
    let up : AreSortedByName all = rw c.as_slice-name-items.ensures c.deref.result.now.sorted_by_name in
    let (key, same, put) = c.in_ok-put_named.ensures in
    rw put (cored-next all item _ c.loop-name.core.entries so_far up key _ same refl
    (rw c.deref-in-loop-name.ensures at c.in_ok-attr_type.ensures.core))

-- where none is left, all have core types
pub core_attributes-returns-clause-core : goal.core_attributes-returns-clause-core
core_attributes-returns-clause-core t c =
    let all = c.as_slice-name-items.result.now in
    let so_far = rw (drop_of_length-le all c.loop-name-test.false) at c.loop-name.invariant in
    rw (fields_of-pairs c.args.attrs.now, sym (c.as_slice-name-items.ensures ∙ ap (λ held. held.entries.items) c.deref.ensures))
    (cored-last all c.loop-name.core.entries so_far)

-- and they make the core type of the record
pub core_type-returns-in_ok-core_attributes-in-Record-clause-core : goal.core_type-returns-in_ok-core_attributes-in-Record-clause-core
core_type-returns-in_ok-core_attributes-in-Record-clause-core t c =
    let attrs = c.in-Record.attrs in
    let core = c.in_ok-core_attributes-in-Record.field-0 in
    let opened : is_open c.in-Record.open_attributes ≡ c.eq.result = is_open-eq c.in-Record.open_attributes ∙ sym c.eq.ensures in
    ap (λ ty. core_of (ty_of ty)) c.in-Record.is ∙ (ap core_of (ty_of-record attrs c.in-Record.open_attributes)
    ∙ ((λ i. option_map (λ fields. core_record fields (opened i)) (c.in_ok-core_attributes-in-Record.ensures.core i))
    ∙ ap Some (sym (core_ty_of-record core c.eq.result))))
