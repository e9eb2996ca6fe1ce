-- Requests that are held against their actions.
use Rattle.std.proofs.Common.{◌≡◌, refl, sym, subst, ap, ◌∙◌, Option, Some, None, inl, inr, Contains}
use Rattle.cedar_ast.proofs.Basics.{Contains-image}
use Rattle.cedar_ast.proofs.Lists.{Contains-preimage}
use Rattle.cedar_ast.specs.Words.{PlainUid, Tree}
use Rattle.cedar_ast.specs.declared.extension.Extensions.{Extensions}
use Rattle.cedar_conformance.proofs.FaultLaws.{fault_lacks}
use Rattle.cedar_conformance.proofs.NamingLaws.{naming_lacks}
use Rattle.cedar_conformance.specs.Plain.{PlainFault}
use Rattle.cedar_conformance.specs.RequestFault.{FitsAction, IsActionAnswer, IsFaultOfAction, IsIdsAnswer, IsRequestAnswer, IsRequestFault, PlainRequestFault, context_fault, external, lacks_choice, out_of_memory, principal_not_allowed, resource_not_allowed, unknown_action}
use Rattle.cedar_conformance.specs.ValueFault.{IsValueFault}
use Rattle.cedar_entities.specs.Words.{Has, HasAction, IsOfTypes, IsRequestIn, MayHaveId, NamesWhatExists, PlainRequest}
use Rattle.cedar_schema.specs.Words.{IsActionAt, IsKeyed}
use Rattle.cedar_schema_elements.specs.Words.{kind_context}
use Rattle.cedar_schema_semantics.specs.Words.{ActionKind, Environment, IsRequestOf, PlainSchema, SchemaAction, defined_action, external_action}
use Rattle.cedar_type_rules.specs.Words.{Ty}

-- a value with a fault hasn't the type, or doesn't name what exists
pub value_lacks : (extensions : Extensions) (schema : PlainSchema) (value : Tree) (ty : Ty) (fault : PlainFault)
    → IsValueFault extensions schema value ty fault → ¬ (Has extensions value ty × NamesWhatExists schema value)
value_lacks extensions schema value ty fault it both = elim it [
  | inl mismatch ↦ fault_lacks extensions value ty fault mismatch both.0
  | inr naming ↦ naming_lacks schema value fault naming both.1
]

-- what fits an action is of its requests
request_of_kind : (extensions : Extensions) (schema : PlainSchema) (it : PlainRequest) (action : SchemaAction)
    → FitsAction extensions schema it action
    → (ty : Ty) × IsRequestOf action.kind (record { principal = it.principal.ty; action = it.action; resource = it.resource.ty; context = ty })
    × Has extensions it.context ty
request_of_kind extensions schema it action fits = by_kind action.kind fits
  where
    by_kind : (kind : ActionKind) → FitsAction extensions schema it (record { uid = action.uid; kind = kind; descendants = action.descendants })
        → (ty : Ty) × IsRequestOf kind (record { principal = it.principal.ty; action = it.action; resource = it.resource.ty; context = ty })
        × Has extensions it.context ty
    by_kind (defined_action principals resources context) fits =
        let same : context ≡ fits.2.0 = cc in
        (context, (fits.0, fits.1, refl), subst (λ ty. Has extensions it.context ty) (sym same) fits.2.2)
    by_kind external_action fits = absurd cc

-- what is of the requests of an action fits it
fits_of_kind : (extensions : Extensions) (schema : PlainSchema) (it : PlainRequest) (action : SchemaAction) (environment : Environment)
    → IsOfTypes environment.principal environment.action environment.resource it → IsRequestOf action.kind environment
    → Has extensions it.context environment.context → NamesWhatExists schema it.context → FitsAction extensions schema it action
fits_of_kind extensions schema it action environment types of has names = by_kind action.kind of
  where
    by_kind : (kind : ActionKind) → IsRequestOf kind environment
        → FitsAction extensions schema it (record { uid = action.uid; kind = kind; descendants = action.descendants })
    by_kind (defined_action principals resources context) of = (
      subst (Contains principals) (sym types.principal_type) of.0,
      subst (Contains resources) (sym types.resource_type) of.1,
      (environment.context, ap Some of.2, has, names),
    )
    by_kind external_action of = elim of [ ]

module _ (extensions : Extensions) (schema : PlainSchema) (it : PlainRequest) where
  -- what fits its action and may have its ids is a request of the schema
  pub request_in : (action : SchemaAction) → Contains schema.actions (it.action, action) → FitsAction extensions schema it action
      → MayHaveId schema it.principal → MayHaveId schema it.resource → IsRequestIn extensions schema it
  request_in action among fits principal resource =
      let of = request_of_kind extensions schema it action fits in (
        record { principal = it.principal.ty; action = it.action; resource = it.resource.ty; context = of.0 },
        (action, among, of.1),
        record { principal_type = refl; of_action = refl; resource_type = refl },
        of.2,
        fits.2.3,
        principal,
        resource,
      )

  -- a request of the schema fits an action of its uid, and may have its ids
  pub fits_in : IsRequestIn extensions schema it → (action : SchemaAction) × Contains schema.actions (it.action, action)
      × FitsAction extensions schema it action
  fits_in request =
      let environment = request.0 in
      let of = request.1 in
      let types = request.2 in (
        of.0,
        subst (λ uid. Contains schema.actions (uid, of.0)) (sym types.of_action) of.1,
        fits_of_kind extensions schema it of.0 environment types of.2 request.3 request.4,
      )

  -- the ids of a request of the schema may be had
  pub ids_in : IsRequestIn extensions schema it → MayHaveId schema it.principal × MayHaveId schema it.resource
  ids_in request = (request.5, request.6)

  -- a request of the schema has its action there
  pub action_in : IsRequestIn extensions schema it → HasAction schema it.action
  action_in request =
      let fits = fits_in request in
      Contains-image (λ (entry : PlainUid × SchemaAction). entry.0) schema.actions (it.action, fits.0) fits.1

  -- where one action stands at each uid, a request of the schema fits it
  pub fits_one : IsKeyed schema → (action : SchemaAction) → Contains schema.actions (it.action, action) → IsRequestIn extensions schema it
      → FitsAction extensions schema it action
  fits_one keyed action among request =
      let fits = fits_in request in
      subst (FitsAction extensions schema it) (keyed.actions it.action fits.0 action fits.1 among) fits.2

  -- what is at fault with a request at its action is at fault with it
  pub fault_of_action : (action : SchemaAction) (fault : PlainRequestFault) → Contains schema.actions (it.action, action)
      → IsFaultOfAction extensions schema it action fault → IsRequestFault extensions schema it fault
  fault_of_action action (external uid) among is = (action, among, is)
  fault_of_action action (principal_not_allowed name) among is = (action, among, is)
  fault_of_action action (resource_not_allowed name) among is = (action, among, is)
  fault_of_action action (context_fault fault) among is = (action, among, is)
  fault_of_action action (unknown_action uid) among is = elim is [ ]
  fault_of_action action (lacks_choice uid) among is = elim is [ ]
  fault_of_action action out_of_memory among is = elim is [ ]

  -- what is at fault with its ids is at fault with it
  pub fault_of_ids : (fault : PlainRequestFault) → IsIdsAnswer schema it (Some fault) → IsRequestFault extensions schema it fault
  fault_of_ids (lacks_choice uid) is = is
  fault_of_ids (external uid) is = elim is [ ]
  fault_of_ids (principal_not_allowed name) is = elim is [ ]
  fault_of_ids (resource_not_allowed name) is = elim is [ ]
  fault_of_ids (context_fault fault) is = elim is [ ]
  fault_of_ids (unknown_action uid) is = elim is [ ]
  fault_of_ids out_of_memory is = elim is [ ]

  -- an id that may not be had keeps a request out of the schema
  pub ids_lack : (fault : PlainRequestFault) → IsIdsAnswer schema it (Some fault) → ¬ IsRequestIn extensions schema it
  ids_lack (lacks_choice uid) is request = elim is.0 [
    | inl principal ↦ is.1 (subst (MayHaveId schema) (sym principal) (ids_in request).0)
    | inr resource ↦ is.1 (subst (MayHaveId schema) (sym resource) (ids_in request).1)
  ]
  ids_lack (external uid) is request = elim is [ ]
  ids_lack (principal_not_allowed name) is request = elim is [ ]
  ids_lack (resource_not_allowed name) is request = elim is [ ]
  ids_lack (context_fault fault) is request = elim is [ ]
  ids_lack (unknown_action uid) is request = elim is [ ]
  ids_lack out_of_memory is request = elim is [ ]

  -- past the ids the action decides
  pub request_answer : IsKeyed schema → (action : SchemaAction) → Contains schema.actions (it.action, action)
      → MayHaveId schema it.principal × MayHaveId schema it.resource → (found : Option PlainRequestFault)
      → IsActionAnswer extensions schema it action found → IsRequestAnswer extensions schema it found
  request_answer keyed action among ids None fits = request_in action among fits ids.0 ids.1
  request_answer keyed action among ids (Some fault) answer =
      (λ request. answer.0 (fits_one keyed action among request), fault_of_action action fault among answer.1)

-- where nothing stands at a uid, the schema has no action of it
pub no_action : (schema : PlainSchema) (uid : PlainUid) → IsActionAt schema uid None → ¬ HasAction schema uid
no_action schema uid none has =
    let found = Contains-preimage (λ (entry : PlainUid × SchemaAction). entry.0) schema.actions uid has in
    none found.0.1 (subst (λ (name : PlainUid). Contains schema.actions (name, found.0.1)) found.2 found.1)

-- a context with a fault doesn't fit its action
pub context_lacks : (extensions : Extensions) (schema : PlainSchema) (it : PlainRequest) (action : SchemaAction) (ty : Ty) (fault : PlainFault)
    → kind_context action.kind ≡ Some ty → IsValueFault extensions schema it.context ty fault → ¬ FitsAction extensions schema it action
context_lacks extensions schema it action ty fault known is fits =
    let one : Some fits.2.0 ≡ Some ty = sym fits.2.1 ∙ known in
    let same : fits.2.0 ≡ ty = cc in
    value_lacks extensions schema it.context ty fault is (subst (Has extensions it.context) same fits.2.2, fits.2.3)
