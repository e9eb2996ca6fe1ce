use Rattle.std.proofs.Common.{[], Option, subst, take}
use Rattle.cedar_elaboration.proofs.IndexLemmas.{items_more}
use Rattle.cedar_elaboration.proofs.OrderLemmas.{HoldsPairwise-push}
use Rattle.cedar_elaboration.proofs.ordering.all_targets.Goals as goal
use Rattle.cedar_elaboration.specs.Words.{AddsIndices, PlainName, Refers, held_names, indexed_names, name_of, type_expr, written_common, written_expr}

pub loop-item-preserved : goal.loop-item-preserved
loop-item-preserved g c =
    let N = g.row.N.Denot in
    let refer = g.N.WrittenName.refer in
    let declared = c.args.declared.now in
    let names = held_names c.args.defs.now in
    let indices = indexed_names c.args.indices.now in
    let item = c.item-item.result in
    let Adds : Option PlainName → Type 0 =
    λ namespace. AddsIndices names indices (Refers (type_expr N (refer namespace) item.1.declared)) [] c.in_ok-referred_indices.field-0.items in
    rw (items_more N refer declared c.loop-item.item-index item c.loop-item-test.true c.item-item.is, c.in_ok-push.ensures.items)
    (HoldsPairwise-push (λ it found. AddsIndices names indices (Refers it.1) [] found.items)
    (written_common N refer (take c.loop-item.item-index declared)) c.loop-item.targets.items
    (name_of item.0, written_expr N refer item.1) c.in_ok-referred_indices.field-0 c.loop-item.invariant
    (subst Adds c.namespace.ensures c.in_ok-referred_indices.ensures))
