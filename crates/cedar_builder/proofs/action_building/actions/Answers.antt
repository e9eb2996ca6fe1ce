use Rattle.std.proofs.lemmas.Result.{IfErr-weaker, IfOk-weaker}
use Rattle.cedar_ast.proofs.Uids.{entity_uid_eq-same}
use Rattle.cedar_ast.specs.contracts.entity_uid.EntityUIDEq.TheImpl as uid_equal
use Rattle.cedar_ast.specs.contracts.entity_uid.EntityUIDPartialEq.TheImpl as uid_eq
use Rattle.cedar_builder.proofs.ActionParents.{edges_declared, fault_declared, keys_declared, requests_declared}
use Rattle.cedar_builder.proofs.ActionsReady.{certain, declared_at, collecting_fault, linking_fault, parent_fault, ready_to_link, stands_after}
use Rattle.cedar_builder.proofs.AtKeys.{entry_at_key, has_entry}
use Rattle.cedar_builder.proofs.ReadyLemmas.{if_ok_both, on_ok_from}
use Rattle.cedar_builder.proofs.action_building.actions.Goals as goal
use Rattle.cedar_builder.specs.Words.{fault_of, held_names, uid_of, written_actions}
use Rattle.cedar_name_resolution.proofs.ExitLemmas.{exit_holds}

-- what is collected and then linked is what the bag declares
pub returns-clause-declared : goal.returns-clause-declared
returns-clause-declared g c = if_ok_both _ _ _
    (λ actions distinct links bag extensions ready.
    let N = g.row.N.Denot in
    let refer = g.N.WrittenName.refer in
    let declared = written_actions N refer c.args.declared.items in
    let keyed = keys_declared N refer c.args.declared.items in
    let types = c.args.entity_types.now in
    let scope = c.args.scope.now in
    let before = c.in_ok-nodes.nodes.entries in
    let edges = c.in_ok-edges.edges.items in
    let after = actions.entries in
    let same = requests_declared N refer c.args.declared.items in
    let collected = rw same at c.in_ok-nodes.ensures.collected in
    let once = rw same at c.in_ok-nodes.ensures.once in
    let are = edges_declared N refer (held_names scope.defs.now).actions c.args.declared.items edges
    (rw c.deref.ensures.value at c.in_ok-edges.ensures.edges) in
    let linked = links (ready_to_link bag extensions declared types scope ready keyed before collected once edges are) in
    record {
      each = λ uid it among.
          declared_at bag extensions declared types scope ready keyed before collected once edges are after linked uid it
          (entry_at_key uid_equal.Laws.laws-law after distinct uid it among);
      complete = λ uid among.
          let found = stands_after bag extensions declared types scope ready keyed before collected once edges are after linked uid among in
          rw found.1 at (has_entry (uid_eq.ghosts).eq after uid_of (λ a b same. (entity_uid_eq-same a b).0 same) found.0 found.2);
    })
    c.linked_nodes.result c.linked_nodes.ensures.distinct c.linked_nodes.ensures.linked

-- the same steps tell what is certain of the declarations
pub returns-clause-sound : goal.returns-clause-sound
returns-clause-sound g c = on_ok_from _ _
    (λ actions links bag extensions ready.
    let N = g.row.N.Denot in
    let refer = g.N.WrittenName.refer in
    let declared = written_actions N refer c.args.declared.items in
    let keyed = keys_declared N refer c.args.declared.items in
    let types = c.args.entity_types.now in
    let scope = c.args.scope.now in
    let before = c.in_ok-nodes.nodes.entries in
    let edges = c.in_ok-edges.edges.items in
    let same = requests_declared N refer c.args.declared.items in
    let collected = rw same at c.in_ok-nodes.ensures.collected in
    let once = rw same at c.in_ok-nodes.ensures.once in
    let are = edges_declared N refer (held_names scope.defs.now).actions c.args.declared.items edges
    (rw c.deref.ensures.value at c.in_ok-edges.ensures.edges) in
    certain bag extensions declared types scope ready keyed before collected once edges are actions.entries
    (links (ready_to_link bag extensions declared types scope ready keyed before collected once edges are))
    (rw same at c.in_ok-nodes.ensures.sound))
    c.linked_nodes.result c.linked_nodes.ensures.linked

-- a refused parent is a fault of the bag
pub returns-in_err-edges-clause-fault : goal.returns-in_err-edges-clause-fault
returns-in_err-edges-clause-fault g c =
    let N = g.row.N.Denot in
    let refer = g.N.WrittenName.refer in
    let fault = fault_of c.in_err-edges.field-0.0 in
    let scope = c.args.scope.now in
    exit_holds _ _ _ c.from_residual.ensures.1
    (λ bag extensions ready.
    parent_fault bag extensions (written_actions N refer c.args.declared.items) c.args.entity_types.now scope ready
    (keys_declared N refer c.args.declared.items) fault
    (fault_declared N refer (held_names scope.defs.now) c.args.declared.items fault (rw c.deref.ensures.value at c.in_err-edges.ensures.fault)))

-- so is a refused declaration
pub returns-in_err-nodes-clause-fault : goal.returns-in_err-nodes-clause-fault
returns-in_err-nodes-clause-fault g c =
    let N = g.row.N.Denot in
    let refer = g.N.WrittenName.refer in
    let fault = fault_of c.in_err-nodes.field-0.0 in
    exit_holds _ _ _ c.from_residual-in_err-nodes.ensures.1
    (λ bag extensions ready.
    collecting_fault bag extensions (written_actions N refer c.args.declared.items) c.args.entity_types.now c.args.scope.now ready
    (keys_declared N refer c.args.declared.items) fault
    (rw (requests_declared N refer c.args.declared.items) at c.in_err-nodes.ensures.fault))

-- and a refused edge
pub returns-clause-fault : goal.returns-clause-fault
returns-clause-fault g c = IfErr-weaker c.linked_nodes.result _ _
    (λ error refused bag extensions ready.
    let N = g.row.N.Denot in
    let refer = g.N.WrittenName.refer in
    let declared = written_actions N refer c.args.declared.items in
    let keyed = keys_declared N refer c.args.declared.items in
    let types = c.args.entity_types.now in
    let scope = c.args.scope.now in
    let before = c.in_ok-nodes.nodes.entries in
    let edges = c.in_ok-edges.edges.items in
    let same = requests_declared N refer c.args.declared.items in
    let collected = rw same at c.in_ok-nodes.ensures.collected in
    let once = rw same at c.in_ok-nodes.ensures.once in
    let are = edges_declared N refer (held_names scope.defs.now).actions c.args.declared.items edges
    (rw c.deref.ensures.value at c.in_ok-edges.ensures.edges) in
    linking_fault bag extensions declared types scope ready keyed before collected once edges are (fault_of error)
    (refused (ready_to_link bag extensions declared types scope ready keyed before collected once edges are)))
    c.linked_nodes.ensures.fault

-- each action keeps the location of its uid
pub returns-clause-located : goal.returns-clause-located
returns-clause-located g c =
    IfOk-weaker c.linked_nodes.result _ _ (λ actions located. located c.in_ok-nodes.ensures.located) c.linked_nodes.ensures.located
