use Rattle.std.proofs.Common.{◌++◌}
use Rattle.std.proofs.lemmas.Result.{err_from_is_err_and}
use Rattle.cedar_fragments.proofs.FragmentLemmas.{first_included, second_included, third_included}
use Rattle.cedar_fragments.proofs.ResolvedBags.{ResolvesUnreservedBag, unresolvable_included, refused_included, resolved_append, none_requested}
use Rattle.cedar_fragments.proofs.namespace.qualify_definitions.ValidatorNamespaceDef+N+N.qualify_within.Given as given
use Rattle.cedar_fragments.proofs.namespace.qualify_definitions.ValidatorNamespaceDef+N+N.qualify_within.Goals as goal
use Rattle.cedar_fragments.specs.Words.{Bag, EntityType, InternalName, IsUnresolvableBag, Reference, ReferenceType, ValidatorNamespaceDef, action_fragment_declarations, common_type_declarations, definition_namespace, entity_type_declarations, held_names, qualify_fault, resolved_action_type, resolved_definition, resolved_reference, written_definition}
use Rattle.cedar_name_resolution.proofs.ExitLemmas.{exit_holds}

-- the declarations of a definition, by sort
module _ (N : Type 0) (refer : ReferenceType → N → Reference) (it : ValidatorNamespaceDef N N) where
  abbrev common : Bag
  common = common_type_declarations N refer it.common_types

  abbrev entities : Bag
  entities = entity_type_declarations N refer it.entity_types

  abbrev actions : Bag
  actions = action_fragment_declarations N refer N refer it.actions

pub returns-in_err-common_types-clause-fault : goal.returns-in_err-common_types-clause-fault
returns-in_err-common_types-clause-fault g c =
    let N = g.row.N.Denot in
    let it = c.args.self in
    let refer = g.N.WrittenName.refer (definition_namespace N N it) in
    let whole = written_definition N g.N.WrittenName.refer it in
    let at_fault : IsUnresolvableBag (held_names c.args.all_defs.now) whole (qualify_fault c.in_err-common_types.field-0.0) =
    refused_included (held_names c.args.all_defs.now) (common N refer it) whole
    (first_included (common N refer it) (entities N refer it) (actions N refer it)) _
    (rw c.lend-within.ensures at c.in_err-common_types.ensures.refused) in
    let p = err_from_is_err_and c.from_residual.result c.from_residual.ensures.1 in
    rw (p.1, p.2) at_fault

pub returns-in_err-entity_types-clause-fault : goal.returns-in_err-entity_types-clause-fault
returns-in_err-entity_types-clause-fault g c =
    let N = g.row.N.Denot in
    let it = c.args.self in
    let refer = g.N.WrittenName.refer (definition_namespace N N it) in
    let whole = written_definition N g.N.WrittenName.refer it in
    let at_fault : IsUnresolvableBag (held_names c.args.all_defs.now) whole (qualify_fault c.in_err-entity_types.field-0.0) =
    refused_included (held_names c.args.all_defs.now) (entities N refer it) whole
    (second_included (common N refer it) (entities N refer it) (actions N refer it)) _
    (rw c.lend-within.ensures at c.in_err-entity_types.ensures.refused) in
    let p = err_from_is_err_and c.from_residual-in_err-entity_types.result c.from_residual-in_err-entity_types.ensures.1 in
    rw (p.1, p.2) at_fault

pub returns-in_err-actions-clause-fault : goal.returns-in_err-actions-clause-fault
returns-in_err-actions-clause-fault g c =
    let N = g.row.N.Denot in
    let it = c.args.self in
    let refer = g.N.WrittenName.refer (definition_namespace N N it) in
    exit_holds _ _ _ c.from_residual-in_err-actions.ensures.1
    (unresolvable_included (held_names c.args.all_defs.now) (actions N refer it) (written_definition N g.N.WrittenName.refer it)
    (third_included (common N refer it) (entities N refer it) (actions N refer it)) _
    (rw c.lend-within.ensures at c.in_err-actions.ensures.fault))

-- the parts that are resolved, together
whole : (g : given.Over) (c : goal.In_ok-actions g) → ResolvesUnreservedBag (held_names c.args.all_defs.now)
    (written_definition g.row.N.Denot g.N.WrittenName.refer c.args.self)
    (resolved_definition (record {
      namespace = c.args.self.namespace;
      common_types = c.in_ok-common_types.common_types;
      entity_types = c.in_ok-entity_types.entity_types;
      actions = c.in_ok-actions.actions;
      loc = c.args.self.loc;
    }))
whole g c =
    let N = g.row.N.Denot in
    let names = held_names c.args.all_defs.now in
    let it = c.args.self in
    let refer = g.N.WrittenName.refer (definition_namespace N N it) in
    let common' = common_type_declarations InternalName resolved_reference c.in_ok-common_types.common_types in
    let entities' = entity_type_declarations InternalName resolved_reference c.in_ok-entity_types.entity_types in
    let actions' = action_fragment_declarations InternalName resolved_reference EntityType resolved_action_type c.in_ok-actions.actions in
    resolved_append names (common N refer it ++ entities N refer it) (actions N refer it) (common' ++ entities') actions'
    (resolved_append names (common N refer it) (entities N refer it) common' entities' (
      rw c.lend-within.ensures at c.in_ok-common_types.ensures.resolved,
      none_requested names _ it.common_types.defs.items (λ def reference none. none),
    ) (
      rw c.lend-within.ensures at c.in_ok-entity_types.ensures.resolved,
      none_requested names _ it.entity_types.defs.items (λ def reference none. none),
    )) (
      rw c.lend-within.ensures at c.in_ok-actions.ensures.resolved,
      rw c.lend-within.ensures at c.in_ok-actions.ensures.unreserved,
    )

pub returns-clause-resolved : goal.returns-clause-resolved
returns-clause-resolved g c = (whole g c).0

pub returns-clause-unreserved : goal.returns-clause-unreserved
returns-clause-unreserved g c = (whole g c).1

pub returns-clause-locs : goal.returns-clause-locs
returns-clause-locs g c =
    λ i. c.in_ok-common_types.ensures.locs i ++ c.in_ok-entity_types.ensures.locs i ++ c.in_ok-actions.ensures.locs i
