use Rattle.std.proofs.Common.{Contains, ap, sym, ◌∙◌}
use Rattle.std.proofs.lemmas.Bool.{false≢true}
use Rattle.std.specs.Option.{option_copied, option_map}
use Rattle.cedar_conformance.proofs.RequestLaws.{context_lacks}
use Rattle.cedar_conformance.proofs.request.action_fault.Goals as goal
use Rattle.cedar_conformance.specs.Plain.{fault_of}
use Rattle.cedar_conformance.specs.RequestFault.{plain_request}
use Rattle.cedar_schema.specs.Words.{action_of, kind_principals, kind_resources, schema_of, ty_of, type_name}

-- a principal that isn't one of the action's is at fault
pub returns-then-not-is_applicable_principal_type-clause-answer : goal.returns-then-not-is_applicable_principal_type-clause-answer
returns-then-not-is_applicable_principal_type-clause-answer c =
    let of = c.entity_type-principal.ensures.name in
    let name = c.in_ok-clone-2.ensures.name ∙ of in
    let lacks : ¬ Contains (kind_principals (action_of c.args.action.now).kind) (type_name c.entity_type-principal.result.now) =
    λ among. false≢true (sym c.if-not-is_applicable_principal_type.true ∙ c.is_applicable_principal_type.ensures.1 among) in (λ fits. lacks (rw of fits.0), (name, λ among. lacks (rw (← c.in_ok-clone-2.ensures.name) among)))

-- so is a resource that isn't
pub returns-then-not-is_applicable_resource_type-clause-answer : goal.returns-then-not-is_applicable_resource_type-clause-answer
returns-then-not-is_applicable_resource_type-clause-answer c =
    let of = c.entity_type-resource.ensures.name in
    let name = c.in_ok-clone-3.ensures.name ∙ of in
    let lacks : ¬ Contains (kind_resources (action_of c.args.action.now).kind) (type_name c.entity_type-resource.result.now) =
    λ among. false≢true (sym c.if-not-is_applicable_resource_type.true ∙ c.is_applicable_resource_type.ensures.1 among) in (λ fits. lacks (rw of fits.1), (name, λ among. lacks (rw (← c.in_ok-clone-3.ensures.name) among)))

-- and a context that has a fault
pub returns-in-Some-2-clause-answer : goal.returns-in-Some-2-clause-answer
returns-in-Some-2-clause-answer c =
    let extensions = c.args.checking.now.search.extensions.now in
    let schema = schema_of c.args.checking.now.existing.schema.now in
    let request = plain_request c.args.request.now in
    let ty = ty_of c.in-Some.context.now in
    let known = sym c.context.ensures.ty ∙ ap (λ found. option_map ty_of (option_copied found)) c.in-Some.is in
    let fault = rw (c.in-Some-2.is, c.expr.ensures) at c.in_ok-fault.ensures.answer in (
      context_lacks extensions schema request (action_of c.args.action.now) ty (fault_of c.in-Some-2.fault) known fault,
      (ty, known, fault),
    )
