use Rattle.std.proofs.lemmas.Result.{IfErr-weaker, IfOk-weaker}
use Rattle.cedar_ast.proofs.Names.{entity_type_eq-same}
use Rattle.cedar_ast.specs.contracts.entity_type.EntityTypeEq.TheImpl as entity_type_equal
use Rattle.cedar_ast.specs.contracts.entity_type.EntityTypePartialEq.TheImpl as entity_type_eq
use Rattle.cedar_builder.proofs.AtKeys.{entry_at_key, has_entry}
use Rattle.cedar_builder.proofs.EntityTypeParents.{edges_declared, fault_declared, keys_declared}
use Rattle.cedar_builder.proofs.EntityTypesReady.{certain, declared_at, collecting_fault, linking_fault, parent_fault, stands_after, unlinked}
use Rattle.cedar_builder.proofs.ReadyLemmas.{if_ok_both, on_ok_from}
use Rattle.cedar_builder.proofs.entity_type_building.entity_types.Goals as goal
use Rattle.cedar_builder.specs.Words.{fault_of, held_names, type_name, written_entities}
use Rattle.cedar_name_resolution.proofs.ExitLemmas.{exit_holds}

-- what is collected and then linked is what the bag declares
pub returns-clause-declared : goal.returns-clause-declared
returns-clause-declared g c = if_ok_both _ _ _
    (λ types distinct links bag extensions ready.
    let declared = written_entities g.row.N.Denot g.N.WrittenName.refer c.args.declared.items in
    let keyed = keys_declared g.row.N.Denot g.N.WrittenName.refer c.args.declared.items in
    let scope = c.args.scope.now in
    let before = c.in_ok-nodes.nodes.entries in
    let edges = c.in_ok-edges.edges.items in
    let after = types.entries in
    let collected = c.in_ok-nodes.ensures.collected in
    let once = c.in_ok-nodes.ensures.once in
    let are = edges_declared g.row.N.Denot g.N.WrittenName.refer (held_names scope.defs.now) c.args.declared.items edges
    (rw c.deref.ensures.value at c.in_ok-edges.ensures.edges) in
    let linked = links (unlinked bag extensions declared scope ready keyed before collected once edges are) in
    record {
      each = λ ty it among. declared_at bag extensions declared scope ready keyed before collected once edges are after linked ty it
          (entry_at_key entity_type_equal.Laws.laws-law after distinct ty it among);
      complete = λ name among.
          let found = stands_after bag extensions declared scope ready keyed before collected once edges are after linked name among in
          rw found.1 at (has_entry (entity_type_eq.ghosts).eq after type_name (λ a b same. (entity_type_eq-same a b).0 same) found.0 found.2);
    })
    c.linked_nodes.result c.linked_nodes.ensures.distinct c.linked_nodes.ensures.linked

-- the same steps tell what is certain of the declarations
pub returns-clause-sound : goal.returns-clause-sound
returns-clause-sound g c = on_ok_from _ _
    (λ types links bag extensions ready.
    let declared = written_entities g.row.N.Denot g.N.WrittenName.refer c.args.declared.items in
    let keyed = keys_declared g.row.N.Denot g.N.WrittenName.refer c.args.declared.items in
    let scope = c.args.scope.now in
    let before = c.in_ok-nodes.nodes.entries in
    let edges = c.in_ok-edges.edges.items in
    let collected = c.in_ok-nodes.ensures.collected in
    let once = c.in_ok-nodes.ensures.once in
    let are = edges_declared g.row.N.Denot g.N.WrittenName.refer (held_names scope.defs.now) c.args.declared.items edges
    (rw c.deref.ensures.value at c.in_ok-edges.ensures.edges) in
    certain bag extensions declared scope ready keyed before collected once edges are types.entries
    (links (unlinked bag extensions declared scope ready keyed before collected once edges are)) c.in_ok-nodes.ensures.sound)
    c.linked_nodes.result c.linked_nodes.ensures.linked

-- a refused parent is a fault of the bag
pub returns-in_err-edges-clause-fault : goal.returns-in_err-edges-clause-fault
returns-in_err-edges-clause-fault g c =
    let fault = fault_of c.in_err-edges.field-0.0 in
    exit_holds _ _ _ c.from_residual.ensures.1
    (λ bag extensions ready.
    parent_fault bag extensions (written_entities g.row.N.Denot g.N.WrittenName.refer c.args.declared.items) c.args.scope.now ready
    (keys_declared g.row.N.Denot g.N.WrittenName.refer c.args.declared.items) fault
    (fault_declared g.row.N.Denot g.N.WrittenName.refer (held_names c.args.scope.now.defs.now) c.args.declared.items fault
    (rw c.deref.ensures.value at c.in_err-edges.ensures.fault)))

-- so is a refused declaration
pub returns-in_err-nodes-clause-fault : goal.returns-in_err-nodes-clause-fault
returns-in_err-nodes-clause-fault g c =
    let fault = fault_of c.in_err-nodes.field-0.0 in
    exit_holds _ _ _ c.from_residual-in_err-nodes.ensures.1
    (λ bag extensions ready.
    collecting_fault bag extensions (written_entities g.row.N.Denot g.N.WrittenName.refer c.args.declared.items) c.args.scope.now ready
    (keys_declared g.row.N.Denot g.N.WrittenName.refer c.args.declared.items) fault c.in_err-nodes.ensures.fault)

-- and a refused edge
pub returns-clause-fault : goal.returns-clause-fault
returns-clause-fault g c = IfErr-weaker c.linked_nodes.result _ _
    (λ error refused bag extensions ready.
    let declared = written_entities g.row.N.Denot g.N.WrittenName.refer c.args.declared.items in
    let keyed = keys_declared g.row.N.Denot g.N.WrittenName.refer c.args.declared.items in
    let scope = c.args.scope.now in
    let before = c.in_ok-nodes.nodes.entries in
    let edges = c.in_ok-edges.edges.items in
    let collected = c.in_ok-nodes.ensures.collected in
    let once = c.in_ok-nodes.ensures.once in
    let are = edges_declared g.row.N.Denot g.N.WrittenName.refer (held_names scope.defs.now) c.args.declared.items edges
    (rw c.deref.ensures.value at c.in_ok-edges.ensures.edges) in
    linking_fault bag extensions declared scope ready keyed before collected once edges are (fault_of error)
    (refused (unlinked bag extensions declared scope ready keyed before collected once edges are)))
    c.linked_nodes.ensures.fault

-- each entity type keeps the location of its name
pub returns-clause-located : goal.returns-clause-located
returns-clause-located g c =
    IfOk-weaker c.linked_nodes.result _ _ (λ types located. located c.in_ok-nodes.ensures.located) c.linked_nodes.ensures.located
