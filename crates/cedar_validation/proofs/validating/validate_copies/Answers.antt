use Rattle.std.proofs.Common.{◌≡◌, ◌⊎◌, List, inl, inr}
use Rattle.std.proofs.lemmas.Result.{IfErr-weaker, IfOk-weaker, on_ok_weaker}
use Rattle.cedar_validation.proofs.CopiedParts.{closes_as_copy, fault_of_copy, valid_as_copy}
use Rattle.cedar_validation.proofs.CopyLemmas.{action_copies_located, type_copies_located}
use Rattle.cedar_validation.proofs.validating.validate_copies.Goals as goal
use Rattle.cedar_validation.specs.Words.{ActionEntity, ClosesSchema, fault_of, plain_schema, whole_schema}

-- a fault of the copies is one of what was copied
pub returns-clause-fault : goal.returns-clause-fault
returns-clause-fault c =
    let types = c.args.entity_types.now.entries in
    let actions = c.args.actions.now.entries in
    IfErr-weaker c.validate.result _ _
    (λ error at_fault entities. elim (at_fault entities) [
      | inl wanting ↦ inl wanting
      | inr here ↦ inr (fault_of_copy types c.in_ok-entity_types.entity_types.entries actions c.in_ok-actions.actions.entries
          c.in_ok-entity_types.ensures c.in_ok-actions.ensures entities c.args.extensions.now (fault_of error) here)
    ])
    c.validate.ensures.fault

pub returns-clause-valid : goal.returns-clause-valid
returns-clause-valid c =
    on_ok_weaker c.validate.result
    (λ valid entities. valid_as_copy c.args.entity_types.now.entries c.in_ok-entity_types.entity_types.entries
    c.args.actions.now.entries c.in_ok-actions.actions.entries c.in_ok-entity_types.ensures c.in_ok-actions.ensures entities
    c.args.extensions.now (valid entities))
    c.validate.ensures.valid

pub returns-clause-types_located : goal.returns-clause-types_located
returns-clause-types_located c =
    IfOk-weaker c.validate.result _ _
    (λ it keeps located. keeps (type_copies_located c.args.entity_types.now.entries c.in_ok-entity_types.entity_types.entries
    c.in_ok-entity_types.ensures located))
    c.validate.ensures.types_located

pub returns-clause-actions_located : goal.returns-clause-actions_located
returns-clause-actions_located c =
    IfOk-weaker c.validate.result _ _
    (λ it keeps located. keeps (action_copies_located c.args.actions.now.entries c.in_ok-actions.actions.entries
    c.in_ok-actions.ensures located))
    c.validate.ensures.actions_located

pub returns-clause-closed : goal.returns-clause-closed
returns-clause-closed c =
    let types = c.args.entity_types.now.entries in
    let actions = c.args.actions.now.entries in
    IfOk-weaker c.validate.result _ _
    (λ it closes entities. closes_as_copy types c.in_ok-entity_types.entity_types.entries actions c.in_ok-actions.actions.entries
    c.in_ok-entity_types.ensures c.in_ok-actions.ensures entities
    (whole_schema it.entity_types.entries it.actions.entries) (closes entities))
    c.validate.ensures.closed
