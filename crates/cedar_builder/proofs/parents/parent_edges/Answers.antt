use Rattle.std.proofs.Common.{◌++◌, map, subst, take}
use Rattle.cedar_ast.proofs.Basics.{Contains-image}
use Rattle.cedar_builder.proofs.NodeEdges.{item_among, map_item, parent_fault_wider, parents_more}
use Rattle.cedar_builder.proofs.parents.parent_edges.Goals as goal
use Rattle.cedar_builder.specs.Words.{HoldsPairwise, IsEdgeOf, IsParentFault, fault_of, held_names, named, parents_in}
use Rattle.cedar_name_resolution.proofs.ExitLemmas.{exit_holds}

pub returns-in_err-add_parents-clause-fault : goal.returns-in_err-add_parents-clause-fault
returns-in_err-add_parents-clause-fault g c =
    let declared = c.args.declared.now in
    let item = c.item-item.result in
    let with = named g.D.HasParents.key_name g.D.HasParents.parents_of in
    exit_holds _ _ _ c.from_residual-in_err-add_parents.ensures.1
    (parent_fault_wider (map with declared) (g.D.HasParents.key_name item.value.0) (g.D.HasParents.parents_of item.value.1) (g.D.HasParents.Refuses (held_names c.args.defs.now))
    (fault_of c.in_err-add_parents.field-0.0)
    (Contains-image with declared item (item_among declared c.loop-item.item-index item c.loop-item-test.true c.item-item.is))
    (subst (λ it. IsParentFault (g.D.HasParents.Refuses (held_names c.args.defs.now)) (map (λ reference. (g.D.HasParents.key_name it.0, reference)) (g.D.HasParents.parents_of it.1))
    (fault_of c.in_err-add_parents.field-0.0)) c.deref.ensures c.in_err-add_parents.ensures.fault))

pub loop-item-preserved : goal.loop-item-preserved
loop-item-preserved g c =
    let is = g.D.HasParents in
    let declared = c.args.declared.now in
    let item = c.item-item.result in
    let index = c.loop-item.item-index in
    let with = named is.key_name is.parents_of in
    let name = is.key_name item.value.0 in
    let parents = is.parents_of item.value.1 in
    let done = map with (take index declared) in
    let IsOf = IsEdgeOf is.key_name (is.Resolves (held_names c.args.defs.now)) in
    let more = c.in_ok-add_parents.ensures.added (parents_in done) c.loop-item.invariant in
    let here : HoldsPairwise IsOf c.add_parents.new.edges.items (parents_in done ++ map (λ reference. (name, reference)) parents) =
    subst (λ it. HoldsPairwise IsOf c.add_parents.new.edges.items
    (parents_in done ++ map (λ reference. (is.key_name it.0, reference)) (is.parents_of it.1))) c.deref.ensures more in
    rw (← map_item with declared index item c.loop-item-test.true c.item-item.is, parents_more done name parents) here
