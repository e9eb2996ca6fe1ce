use Rattle.std.proofs.Common.{subst}
use Rattle.std.proofs.lemmas.Result.{err_from_is_err_and}
use Rattle.cedar_ast.proofs.Basics.{Contains-image}
use Rattle.cedar_ast.proofs.Lists.{Contains-preimage}
use Rattle.cedar_validation.proofs.Checking.{checking_all, checking_here, checking_more, checking_none}
use Rattle.cedar_validation.proofs.RequestTypeLemmas.{misplaced_fault}
use Rattle.cedar_validation.proofs.request_types.check_actions.Goals as goal
use Rattle.cedar_validation.specs.Words.{ArePlaced, EntityUID, IsValidationFault, PlainUid, SchemaAction, ValidatorActionId, action_of, fault_of, plain_action_entry, plain_parts}

-- an action under its uid
abbrev Item : Type 0
Item = EntityUID × ValidatorActionId

-- at first no action is checked, and all are left
pub loop-uid-init : goal.loop-uid-init
loop-uid-init c =
    checking_none (λ (entry : Item). ArePlaced (plain_parts c.args.parts.now) (action_of entry.1)) c.args.parts.now.actions.entries _
    c.into_iter-uid-iterator.ensures.into_iter_gives.0

-- one more action names only what the schema declares
pub loop-uid-preserved : goal.loop-uid-preserved
loop-uid-preserved c =
    checking_more (λ (entry : Item). ArePlaced (plain_parts c.args.parts.now) (action_of entry.1)) c.args.parts.now.actions.entries _ _
    (c.in-Some._uid.now, c.in-Some.action.now) c.in-Some.ensures.steps c.loop-uid.invariant c.in_ok-check_action.ensures.sound

-- each action of the schema is that of an entry of the table, and all entries were checked
pub returns-clause-sound : goal.returns-clause-sound
returns-clause-sound c = λ entry among.
    let actions = c.args.parts.now.actions.entries in
    let it = Contains-preimage plain_action_entry actions entry among in
    let P : PlainUid × SchemaAction → Type 0 = λ each. ArePlaced (plain_parts c.args.parts.now) each.1 in
    subst P it.2
    (checking_all (λ (each : Item). ArePlaced (plain_parts c.args.parts.now) (action_of each.1)) actions _
    c.in-None.ensures.steps.0 c.loop-uid.invariant it.0 it.1)

-- the action at fault is one of the schema, so its fault is one of the schema
pub returns-in_err-check_action-clause-fault : goal.returns-in_err-check_action-clause-fault
returns-in_err-check_action-clause-fault c =
    let schema = plain_parts c.args.parts.now in
    let actions = c.args.parts.now.actions.entries in
    let fault = fault_of c.in_err-check_action.field-0.0 in
    let entry : Item = (c.in-Some._uid.now, c.in-Some.action.now) in
    let among =
    checking_here (λ (each : Item). ArePlaced schema (action_of each.1)) actions _ _ entry c.in-Some.ensures.steps c.loop-uid.invariant in
    let at_fault : IsValidationFault schema fault =
    misplaced_fault schema (plain_action_entry entry) (Contains-image plain_action_entry actions entry among) fault
    c.in_err-check_action.ensures.fault in
    let p = err_from_is_err_and c.from_residual.result c.from_residual.ensures.1 in
    rw (p.1, p.2) at_fault
