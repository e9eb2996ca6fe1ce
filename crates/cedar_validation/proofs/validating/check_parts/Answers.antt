use Rattle.std.proofs.Common.{◌≡◌, ◌⊎◌, inl, inr}
use Rattle.std.proofs.lemmas.Result.{err_from_is_err_and}
use Rattle.cedar_ast.proofs.Basics.{OnOk-map}
use Rattle.cedar_validation.proofs.Results.{on_err}
use Rattle.cedar_validation.proofs.Valid.{no_fault}
use Rattle.cedar_validation.proofs.validating.check_parts.Goals as goal
use Rattle.cedar_validation.specs.Words.{IsSchemaFault, fault_of, out_of_memory, plain_parts}

pub returns-clause-valid : goal.returns-clause-valid
returns-clause-valid c =
    OnOk-map c.check_actions.result c.check_actions.ensures.sound
    (no_fault c.args.extensions.now (plain_parts c.args.parts.now) c.in_ok-check_names.ensures.sound c.in_ok-check_types.ensures.sound
    c.in_ok-check_hierarchy.ensures.sound)

pub returns-in_err-check_names-clause-fault : goal.returns-in_err-check_names-clause-fault
returns-in_err-check_names-clause-fault c =
    let fault = fault_of c.in_err-check_names.field-0.0 in
    let at_fault : (fault ≡ out_of_memory) ⊎ IsSchemaFault c.args.extensions.now (plain_parts c.args.parts.now) fault =
    elim c.in_err-check_names.ensures.fault [ inl wanting ↦ inl wanting | inr any ↦ inr (any c.args.extensions.now) ] in
    let p = err_from_is_err_and c.from_residual.result c.from_residual.ensures.1 in
    rw (p.1, p.2) at_fault

pub returns-in_err-check_hierarchy-clause-fault : goal.returns-in_err-check_hierarchy-clause-fault
returns-in_err-check_hierarchy-clause-fault c =
    let fault = fault_of c.in_err-check_hierarchy.field-0.0 in
    let at_fault : (fault ≡ out_of_memory) ⊎ IsSchemaFault c.args.extensions.now (plain_parts c.args.parts.now) fault =
    elim c.in_err-check_hierarchy.ensures.fault [ inl wanting ↦ inl wanting | inr any ↦ inr (any c.args.extensions.now) ] in
    let p = err_from_is_err_and c.from_residual-in_err-check_hierarchy.result c.from_residual-in_err-check_hierarchy.ensures.1 in
    rw (p.1, p.2) at_fault

pub returns-clause-fault : goal.returns-clause-fault
returns-clause-fault c =
    on_err c.check_actions.result c.check_actions.ensures.fault
    (λ error why. elim why [ inl wanting ↦ inl wanting | inr any ↦ inr (any c.args.extensions.now) ])
