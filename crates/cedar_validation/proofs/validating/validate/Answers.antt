use Rattle.std.proofs.Common.{◌≡◌, ◌⊎◌, List, map, inl, inr}
use Rattle.std.proofs.lemmas.Result.{err_from_is_err_and}
use Rattle.cedar_schema_elements.proofs.ListedEntities.{listed_of_keys}
use Rattle.cedar_schema_elements.specs.Words.{listed_entities}
use Rattle.cedar_validation.proofs.Validation.{closes_before, fault_before, valid_before}
use Rattle.cedar_validation.proofs.validating.validate.Goals as goal
use Rattle.cedar_validation.specs.Words.{ActionEntity, IsSchemaFault, fault_of, out_of_memory, plain_action_entry, plain_entry, plain_schema}

-- a fault met closing the entity types is one of the schema, whatever its actions, entities and
-- extensions
pub returns-in_err-closed_types-clause-fault : goal.returns-in_err-closed_types-clause-fault
returns-in_err-closed_types-clause-fault c =
    let actions = c.args.actions.entries in
    let extensions = c.args.extensions.now in
    let fault = fault_of c.in_err-closed_types.field-0.0 in
    let at_fault : (entities : List ActionEntity) → (fault ≡ out_of_memory)
    ⊎ IsSchemaFault extensions (plain_schema c.args.entity_types.entries actions entities) fault =
    λ entities. elim (c.in_err-closed_types.ensures.fault actions entities) [ inl wanting ↦ inl wanting | inr of ↦ inr (of extensions) ] in
    let p = err_from_is_err_and c.from_residual.result c.from_residual.ensures.1 in
    rw (p.1, p.2) at_fault

-- a fault met closing the actions is one of the schema, whatever its entities and extensions
pub returns-in_err-closed_actions-clause-fault : goal.returns-in_err-closed_actions-clause-fault
returns-in_err-closed_actions-clause-fault c =
    let types = c.args.entity_types.entries in
    let actions = c.args.actions.entries in
    let extensions = c.args.extensions.now in
    let fault = fault_of c.in_err-closed_actions.field-0.0 in
    let at_fault : (entities : List ActionEntity) → (fault ≡ out_of_memory)
    ⊎ IsSchemaFault extensions (plain_schema types actions entities) fault =
    λ entities. elim (c.in_err-closed_actions.ensures.fault types entities) [ inl wanting ↦ inl wanting | inr of ↦ inr (of extensions) ] in
    let p = err_from_is_err_and c.from_residual-in_err-closed_actions.result c.from_residual-in_err-closed_actions.ensures.1 in
    rw (p.1, p.2) at_fault

-- a fault of the closed schema is one of the schema before it was closed
pub returns-in_err-check_parts-clause-fault : goal.returns-in_err-check_parts-clause-fault
returns-in_err-check_parts-clause-fault c =
    let types = c.args.entity_types.entries in
    let actions = c.args.actions.entries in
    let extensions = c.args.extensions.now in
    let fault = fault_of c.in_err-check_parts.field-0.0 in
    let at_fault : (entities : List ActionEntity) → (fault ≡ out_of_memory)
    ⊎ IsSchemaFault extensions (plain_schema types actions entities) fault =
    λ entities. fault_before types c.in_ok-closed_types.field-0.entries actions c.in_ok-closed_actions.field-0.entries entities
    (c.in_ok-closed_types.ensures.closed actions entities) (c.in_ok-closed_actions.ensures.closed types entities) extensions fault
    c.in_err-check_parts.ensures.fault in
    let p = err_from_is_err_and c.from_residual-in_err-check_parts.result c.from_residual-in_err-check_parts.ensures.1 in
    rw (p.1, p.2) at_fault

-- the actions have no cycle and the closed schema is valid, so the schema before it was closed is
-- valid too
pub returns-clause-valid : goal.returns-clause-valid
returns-clause-valid c = λ entities.
    let types = c.args.entity_types.entries in
    let actions = c.args.actions.entries in
    valid_before types c.in_ok-closed_types.field-0.entries actions c.in_ok-closed_actions.field-0.entries entities
    (c.in_ok-closed_types.ensures.closed actions entities) (c.in_ok-closed_actions.ensures.closed types entities) c.args.extensions.now
    (c.in_ok-closed_actions.ensures.acyclic types entities) c.in_ok-check_parts.ensures.valid

-- entity types and actions are closed each on their own, and the entities are those of the closed
-- actions
pub returns-clause-closed : goal.returns-clause-closed
returns-clause-closed c = λ entities.
    let types = c.args.entity_types.entries in
    let actions = c.args.actions.entries in
    closes_before types c.in_ok-closed_types.field-0.entries actions c.in_ok-closed_actions.field-0.entries entities
    (c.in_ok-closed_types.ensures.closed actions entities) (c.in_ok-closed_actions.ensures.closed types entities)
    (listed_entities (map plain_action_entry c.in_ok-closed_actions.field-0.entries))
    (listed_of_keys (map plain_entry c.in_ok-closed_types.field-0.entries) c.in_ok-closed_actions.field-0.entries c.keys_ascend.ensures)
