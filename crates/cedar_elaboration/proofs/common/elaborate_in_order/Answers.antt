use Rattle.std.proofs.Common.{◌<◌, length, take, get_or, refl, rules}
use Rattle.std.proofs.Math.ListN.{length-map}
use Rattle.std.proofs.lemmas.List.{get_or_default, take_all, take_more}
use Rattle.std.proofs.lemmas.Option.{slice_get_within}
use Rattle.cedar_elaboration.proofs.ElaborationLemmas.{Covers-next, ElaboratedInOrder-more, fault_at, index_within}
use Rattle.cedar_elaboration.proofs.IndexLemmas.{item_at_index, index_of, split_at}
use Rattle.cedar_elaboration.proofs.common.elaborate_in_order.Goals as goal
use Rattle.cedar_elaboration.specs.Words.{defined_over, extension_types, held_names, item_names, name_of, written_common, written_expr}
use Rattle.cedar_name_resolution.proofs.ExitLemmas.{exit_holds}

pub bounds-declared-item_index : goal.bounds-declared-item_index
bounds-declared-item_index g c =
    index_within g.row.N.Denot g.N.WrittenName.refer c.args.declared.now (held_names c.args.defs.now) c.args.order.now c.requires
    c.loop-item_index.item_index-index c.loop-item_index-test.true

pub offset_bounds-declared-item_index : goal.offset_bounds-declared-item_index
offset_bounds-declared-item_index g c =
    let below = index_within g.row.N.Denot g.N.WrittenName.refer c.args.declared.now (held_names c.args.defs.now) c.args.order.now c.requires
    c.loop-item_index.item_index-index c.loop-item_index-test.true in
    search (rules, below)

pub returns-in_err-ty-clause-fault : goal.returns-in_err-ty-clause-fault
returns-in_err-ty-clause-fault g c =
    let N = g.row.N.Denot in
    let refer = g.N.WrittenName.refer in
    let items = written_common N refer c.args.declared.now in
    let names = held_names c.args.defs.now in
    let extensions = extension_types c.args.extensions.now in
    let order = c.args.order.now in
    let index = c.loop-item_index.item_index-index in
    let item_index = get_or order index 0 in
    let item = c.index-declared-item_index.result in
    let below : item_index < length c.args.declared.now =
    index_within N refer c.args.declared.now names order c.requires index c.loop-item_index-test.true in
    let stands = item_at_index N refer c.args.declared.now item_index item below c.index-declared-item_index.is in
    let split = split_at order index item_index c.loop-item_index-test.true (get_or_default order index 0 item_index c.loop-item_index-test.true) in
    exit_holds _ _ _ c.from_residual.ensures.1 (λ named.
    let knows = Covers-next items names extensions order (take index order) _ item_index (name_of item.0, written_expr N refer item.1) _
    c.requires split stands named refl (c.loop-item_index.invariant named) in
    fault_at items names extensions item_index (name_of item.0, written_expr N refer item.1) stands _
    ((rw c.namespace.ensures at c.in_err-ty.ensures.fault).each (defined_over items names) knows))

pub loop-item_index-preserved : goal.loop-item_index-preserved
loop-item_index-preserved g c named =
    let N = g.row.N.Denot in
    let refer = g.N.WrittenName.refer in
    let items = written_common N refer c.args.declared.now in
    let names = held_names c.args.defs.now in
    let extensions = extension_types c.args.extensions.now in
    let defined = defined_over items names in
    let order = c.args.order.now in
    let index = c.loop-item_index.item_index-index in
    let item_index = get_or order index 0 in
    let item = c.index-declared-item_index.result in
    let below : item_index < length c.args.declared.now =
    index_within N refer c.args.declared.now names order c.requires index c.loop-item_index-test.true in
    let stands = item_at_index N refer c.args.declared.now item_index item below c.index-declared-item_index.is in
    let split = split_at order index item_index c.loop-item_index-test.true (get_or_default order index 0 item_index c.loop-item_index-test.true) in
    let knows = Covers-next items names extensions order (take index order) _ item_index (name_of item.0, written_expr N refer item.1) _
    c.requires split stands named refl (c.loop-item_index.invariant named) in
    rw (take_more order index 0 c.loop-item_index-test.true, c.in_ok-put.ensures)
    (ElaboratedInOrder-more items names extensions (take index order) item_index (name_of item.0, written_expr N refer item.1)
    c.loop-item_index.common.entries c.in_ok-clone.field-0 c.in_ok-ty.ty stands c.in_ok-clone.ensures.name
    ((rw c.namespace.ensures at c.in_ok-ty.ensures.elaborates) defined knows)
    (record {
      closed = rw c.namespace.ensures at c.in_ok-ty.ensures.closed;
      known = rw c.namespace.ensures at c.in_ok-ty.ensures.extensions;
      resolved = (rw c.namespace.ensures at c.in_ok-ty.ensures.resolved) defined knows;
    })
    (c.loop-item_index.invariant named))

pub returns-clause-each : goal.returns-clause-each
returns-clause-each g c named name among =
    let N = g.row.N.Denot in
    let refer = g.N.WrittenName.refer in
    let items = written_common N refer c.args.declared.now in
    let at = index_of (item_names items) name among in
    let below : at.0 < length items = rw (length-map items (λ it. it.0)) at (slice_get_within (item_names items) at.0 name at.1) in
    (c.loop-item_index.invariant named).there at.0
    (rw (take_all c.loop-item_index.item_index-index c.args.order.now c.loop-item_index-test.false) ((c.requires.indices at.0).1 below))
    name at.1

pub returns-clause-sound : goal.returns-clause-sound
returns-clause-sound g c named item among =
    let N = g.row.N.Denot in
    let refer = g.N.WrittenName.refer in
    let items = written_common N refer c.args.declared.now in
    let at = index_of items item among in
    (c.loop-item_index.invariant named).sound at.0
    (rw (take_all c.loop-item_index.item_index-index c.args.order.now c.loop-item_index-test.false)
    ((c.requires.indices at.0).1 (slice_get_within items at.0 item at.1)))
    item at.1
