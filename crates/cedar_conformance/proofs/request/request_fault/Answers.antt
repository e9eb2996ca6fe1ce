use Rattle.std.proofs.Common.{subst, sym}
use Rattle.std.proofs.lemmas.Result.{IfOk-weaker, on_err_weaker}
use Rattle.std.specs.Option.{option_copied, option_map}
use Rattle.cedar_conformance.proofs.Outcomes.{always}
use Rattle.cedar_conformance.proofs.RequestLaws.{action_in, fault_of_ids, fits_one, ids_lack, no_action, request_answer}
use Rattle.cedar_conformance.proofs.request.request_fault.Goals as goal
use Rattle.cedar_conformance.specs.RequestFault.{IsRequestAnswer, plain_request, request_fault_of}
use Rattle.cedar_entities.specs.Words.{HasAction}
use Rattle.cedar_schema.proofs.Lookups.{action_at, schema_keyed}
use Rattle.cedar_schema.specs.Words.{schema_of}

-- without its action there is no such request, which isn't told for want of memory
pub returns-in_err-clone-clause-memory : goal.returns-in_err-clone-clause-memory
returns-in_err-clone-clause-memory c =
    let schema = c.args.checking.now.existing.schema.now in
    let request = plain_request c.args.request.now in
    let none = rw c.in_default.is at
    (action_at schema request.action (option_copied c.get_action_id.result) c.get_action_id.ensures) in
    always c.from_residual.result (λ is. no_action (schema_of schema) request.action none
    (action_in c.args.checking.now.search.extensions.now (schema_of schema) request is))

-- nor where it is
pub returns-in_default-clause-answer : goal.returns-in_default-clause-answer
returns-in_default-clause-answer c =
    let schema = c.args.checking.now.existing.schema.now in
    let request = plain_request c.args.request.now in
    let at = rw c.in_default.is at
    (action_at schema request.action (option_copied c.get_action_id.result) c.get_action_id.ensures) in
    let none = no_action (schema_of schema) request.action at in (
      λ is. none (action_in c.args.checking.now.search.extensions.now (schema_of schema) request is),
      (c.in_ok-clone.ensures.uid, subst (λ uid. ¬ HasAction (schema_of schema) uid) (sym c.in_ok-clone.ensures.uid) none),
    )

-- past the ids the action decides
pub returns-clause-answer : goal.returns-clause-answer
returns-clause-answer c =
    let extensions = c.args.checking.now.search.extensions.now in
    let schema = c.args.checking.now.existing.schema.now in
    let request = plain_request c.args.request.now in
    let at = rw c.in-Some.is at
    (action_at schema request.action (option_copied c.get_action_id.result) c.get_action_id.ensures) in
    let ids = rw c.in_default-2.is at c.in_ok-fault.ensures.answer in
    IfOk-weaker c.action_fault.result _
    (λ fault. IsRequestAnswer extensions (schema_of schema) request (option_map request_fault_of fault))
    (λ fault answer. request_answer extensions (schema_of schema) request (schema_keyed schema) _ at ids (option_map request_fault_of fault) answer)
    c.action_fault.ensures.answer

-- also where its fault isn't told
pub returns-clause-memory : goal.returns-clause-memory
returns-clause-memory c =
    let extensions = c.args.checking.now.search.extensions.now in
    let schema = c.args.checking.now.existing.schema.now in
    let request = plain_request c.args.request.now in
    let at = rw c.in-Some.is at
    (action_at schema request.action (option_copied c.get_action_id.result) c.get_action_id.ensures) in
    on_err_weaker c.action_fault.result
    (λ lacks is. lacks (fits_one extensions (schema_of schema) request (schema_keyed schema) _ at is)) c.action_fault.ensures.memory

-- an id that may not be had is at fault
pub returns-in-Some-2-clause-answer : goal.returns-in-Some-2-clause-answer
returns-in-Some-2-clause-answer c =
    let extensions = c.args.checking.now.search.extensions.now in
    let schema = schema_of c.args.checking.now.existing.schema.now in
    let request = plain_request c.args.request.now in
    let fault = request_fault_of c.in-Some-2.fault in
    let found = rw c.in-Some-2.is at c.in_ok-fault.ensures.answer in
    (ids_lack extensions schema request fault found, fault_of_ids extensions schema request fault found)
