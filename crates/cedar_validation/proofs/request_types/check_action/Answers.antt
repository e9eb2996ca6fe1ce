use Rattle.std.proofs.Common.{sym, inl, inr}
use Rattle.std.proofs.lemmas.Result.{err_from_is_err_and}
use Rattle.cedar_ast.proofs.Basics.{OnOk-map}
use Rattle.cedar_schema_elements.proofs.KindLemmas.{principal_of, resource_of}
use Rattle.cedar_validation.proofs.RequestTypeLemmas.{for_cases}
use Rattle.cedar_validation.proofs.request_types.check_action.Goals as goal
use Rattle.cedar_validation.specs.Words.{IsMisplaced, action_of, fault_of, plain_parts}

-- the type that isn't declared is one of the action's principals, so it is one that the action
-- names
pub returns-in_err-check_requests-clause-fault : goal.returns-in_err-check_requests-clause-fault
returns-in_err-check_requests-clause-fault c =
    let it = action_of c.args.action.now in
    let fault = fault_of c.in_err-check_requests.field-0.0 in
    let at_fault : IsMisplaced (plain_parts c.args.parts.now) it fault =
    elim c.in_err-check_requests.ensures.fault [
      | inl wanting ↦ inl wanting
      | inr of ↦ inr (inl (of.0, of.1, principal_of it.kind of.0 (rw c.principals.ensures.names at of.2), of.3))
    ] in
    let p = err_from_is_err_and c.from_residual.result c.from_residual.ensures.1 in
    rw (p.1, p.2) at_fault

-- the same with one of its resources
pub returns-in_err-check_requests-2-clause-fault : goal.returns-in_err-check_requests-2-clause-fault
returns-in_err-check_requests-2-clause-fault c =
    let it = action_of c.args.action.now in
    let fault = fault_of c.in_err-check_requests-2.field-0.0 in
    let at_fault : IsMisplaced (plain_parts c.args.parts.now) it fault =
    elim c.in_err-check_requests-2.ensures.fault [
      | inl wanting ↦ inl wanting
      | inr of ↦ inr (inl (of.0, of.1, resource_of it.kind of.0 (rw c.resources.ensures.names at of.2), of.3))
    ] in
    let p = err_from_is_err_and c.from_residual-in_err-check_requests-2.result c.from_residual-in_err-check_requests-2.ensures.1 in
    rw (p.1, p.2) at_fault

-- each type that the action names is a principal or a resource, and both are declared
pub returns-clause-sound : goal.returns-clause-sound
returns-clause-sound c =
    let it = action_of c.args.action.now in
    OnOk-map c.check_descendants.result c.check_descendants.ensures.sound
    (λ descendants. record {
      types = λ name of.
          elim (for_cases it.kind name of) [ inl among ↦ c.in_ok-check_requests.ensures.sound name (rw (sym c.principals.ensures.names) at among) | inr among ↦ c.in_ok-check_requests-2.ensures.sound name (rw (sym c.resources.ensures.names) at among) ];
      descendants = descendants;
    })
