use Rattle.std.proofs.Common.{append-nil, map, take}
use Rattle.std.proofs.lemmas.List.{take_all}
use Rattle.cedar_ast.proofs.Basics.{Contains-image}
use Rattle.cedar_builder.proofs.NodeEdges.{item_among, map_item, parent_fault, pushed_parent}
use Rattle.cedar_builder.proofs.parents.add_parents.Goals as goal
use Rattle.cedar_builder.specs.Words.{IsEdgeOf, fault_of, held_names}
use Rattle.cedar_name_resolution.proofs.ExitLemmas.{exit_holds}

-- at first there are the edges from before
pub loop-parent-init : goal.loop-parent-init
loop-parent-init g c parents turn = rw (append-nil parents) turn

-- one more parent gives one more edge
pub loop-parent-preserved : goal.loop-parent-preserved
loop-parent-preserved g c parents turn =
    let is = g.D.HasParents in
    let items = c.parents-parent-items.result.now in
    let parent = c.parent-item.result in
    let index = c.loop-parent.parent-index in
    let refer = is.reference_of c.args.declaration.now in
    let IsOf = IsEdgeOf is.key_name (is.Resolves (held_names c.args.defs.now)) in
    rw (c.in_ok-push.ensures.items, ← map_item refer items index parent c.loop-parent-test.true c.parent-item.is)
    (pushed_parent IsOf parents c.loop-parent.edges.items (is.key_name c.args.lower.now) (map refer (take index items)) (refer parent)
    (c.in_ok-upper.upper, c.in_ok-copy_key.field-0) (c.in_ok-copy_key.ensures, c.in_ok-upper.ensures.key)
    (c.loop-parent.invariant parents turn))

-- the parent at fault is one of the declaration
pub returns-in_err-upper-clause-fault : goal.returns-in_err-upper-clause-fault
returns-in_err-upper-clause-fault g c =
    let is = g.D.HasParents in
    let items = c.parents-parent-items.result.now in
    let parent = c.parent-item.result in
    let refer = is.reference_of c.args.declaration.now in
    let fault = fault_of c.in_err-upper.field-0.0 in
    exit_holds _ _ _ c.from_residual.ensures.1
    (parent_fault (is.Refuses (held_names c.args.defs.now)) (is.key_name c.args.lower.now) (is.parents_of c.args.declaration.now) (refer parent) fault
    (rw c.parents-parent-items.ensures at (Contains-image refer items parent
    (item_among items c.loop-parent.parent-index parent c.loop-parent-test.true c.parent-item.is)))
    c.in_err-upper.ensures.fault)

-- at the end all parents have given their edges
pub returns-clause-added : goal.returns-clause-added
returns-clause-added g c parents turn =
    let items = c.parents-parent-items.result.now in
    rw (take_all c.loop-parent.parent-index items c.loop-parent-test.false, c.parents-parent-items.ensures) at (c.loop-parent.invariant parents turn)
