use Rattle.std.proofs.Common.{map, ap, inl, inr, refl}
use Rattle.std.proofs.IntoIterSteps.{All-taken}
use Rattle.cedar_builder.proofs.ActionsElaborated.{SameItems-none, kind_elaborated, principals_fault, resources_fault}
use Rattle.cedar_builder.proofs.action_requests.elaborated_definition.Goals as goal
use Rattle.cedar_builder.specs.Words.{Entity, action_of, fault_of, kind_context, names_in, namespace_name, ty_of, type_expr, uid_of}
use Rattle.cedar_name_resolution.proofs.ExitLemmas.{exit_holds}

-- a context is refused for its types, or as it is no record type
pub returns-in_err-context-clause-fault : goal.returns-in_err-context-clause-fault
returns-in_err-context-clause-fault g c =
    let refer = g.N.WrittenName.refer (namespace_name c.args.namespace) in
    let it = c.args.requests.now in
    exit_holds _ _ _ c.from_residual.ensures.1
    (elim c.in_err-context.ensures.fault [
      | inl wanting ↦ inl wanting
      | inr (inl refused) ↦ inr (inl (type_expr g.row.N.Denot refer it.context, refl, refused))
      | inr (inr none) ↦ inr (inr (inl none))
    ])

-- a fault of the principals is one of the requests
pub returns-in_err-principals-clause-fault : goal.returns-in_err-principals-clause-fault
returns-in_err-principals-clause-fault g c =
    let refer = g.N.WrittenName.refer (namespace_name c.args.namespace) in
    let types = names_in c.args.scope.now.entity_types.now in
    let fault = fault_of c.in_err-principals.field-0.0 in
    let it = c.args.requests.now in
    exit_holds _ _ _ c.from_residual-in_err-principals.ensures.1
    (principals_fault c.args.scope.now.types.now types (uid_of c.args.uid) (map (refer Entity) it.principals.items)
    (map (refer Entity) it.resources.items) (type_expr g.row.N.Denot refer it.context) fault
    (rw c.deref.ensures.value at c.in_err-principals.ensures.fault))

-- so is one of the resources
pub returns-in_err-resources-clause-fault : goal.returns-in_err-resources-clause-fault
returns-in_err-resources-clause-fault g c =
    let refer = g.N.WrittenName.refer (namespace_name c.args.namespace) in
    let types = names_in c.args.scope.now.entity_types.now in
    let fault = fault_of c.in_err-resources.field-0.0 in
    let it = c.args.requests.now in
    exit_holds _ _ _ c.from_residual-in_err-resources.ensures.1
    (resources_fault c.args.scope.now.types.now types (uid_of c.args.uid) (map (refer Entity) it.principals.items)
    (map (refer Entity) it.resources.items) (type_expr g.row.N.Denot refer it.context) fault
    (rw c.deref-2.ensures.value at c.in_err-resources.ensures.fault))

-- principals, resources and context are those that are declared
pub returns-clause-elaborates : goal.returns-clause-elaborates
returns-clause-elaborates g c =
    let refer = g.N.WrittenName.refer (namespace_name c.args.namespace) in
    let made = c.in_ok-for_requests in
    let it = c.args.requests.now in
    let is = made.ensures.kind in
    let from = made.ensures.descendants in
    record {
      uid = made.ensures.action.uid;
      kind = kind_elaborated c.args.scope.now.types.now (map (refer Entity) it.principals.items) (map (refer Entity) it.resources.items)
          (type_expr g.row.N.Denot refer it.context) (ty_of c.in_ok-context.context) (action_of made.field-0).kind
          (rw (is, ← c.deref.ensures.value) c.in_ok-principals.ensures.names)
          (rw (is, ← c.deref-2.ensures.value) c.in_ok-resources.ensures.names)
          (ap kind_context is) c.in_ok-context.ensures.elaborates;
      no_descendants = SameItems-none (action_of made.field-0).descendants
          (rw (All-taken from.0 from.1 from.3, from.2.0, c.new-below.ensures.items) at from.4);
    }

-- the context is closed, and the types are declared
pub returns-clause-sound : goal.returns-clause-sound
returns-clause-sound g c = record {
  closed = λ expr counts. rw counts at c.in_ok-context.ensures.closed;
  extensions = λ expr counts. rw counts at c.in_ok-context.ensures.extensions;
  resolves = λ expr counts. rw counts at c.in_ok-context.ensures.resolved;
  record_context = (ty_of c.in_ok-context.context, c.in_ok-context.ensures.elaborates, c.in_ok-context.ensures.is_record);
  placed = λ reference place. elim place [
    | inl principal ↦ (rw c.deref.ensures.value at c.in_ok-principals.ensures.declared) reference principal
    | inr resource ↦ (rw c.deref-2.ensures.value at c.in_ok-resources.ensures.declared) reference resource
  ];
}
