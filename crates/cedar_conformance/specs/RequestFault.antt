-- Why a request isn't one of a schema.
use Rattle.std.specs.Prelude.{◌≡◌, ◌⊎◌, Option, Some, None, Contains}
use Rattle.cedar_ast.specs.Words.{PlainName, PlainUid, tree_of, type_name, uid_of, value_expr}
use Rattle.cedar_ast.specs.declared.extension.Extensions.{Extensions}
use Rattle.cedar_conformance.specs.Plain.{PlainFault, fault_of}
use Rattle.cedar_conformance.specs.ValueFault.{IsValueFault}
use Rattle.cedar_conformance.specs.declared.request.Request.{Request}
use Rattle.cedar_conformance.specs.declared.request_fault.RequestFault.{RequestFault}
use Rattle.cedar_conformance.specs.declared.request_fault.RequestFault.TheVariants as fault
use Rattle.cedar_entities.specs.Words.{IsRequestIn, MayHaveId, NamesWhatExists, PlainRequest}
use Rattle.cedar_schema_elements.specs.Words.{kind_context, kind_principals, kind_resources}
use Rattle.cedar_schema_semantics.specs.Words.{HasAction, PlainSchema, SchemaAction, external_action}
use Rattle.cedar_type_rules.specs.Words.{Has, Ty}

-- a request as plain data
abbrev pub plain_request : Request → PlainRequest
plain_request it = record {
  principal = uid_of it.principal.now;
  action = uid_of it.action.now;
  resource = uid_of it.resource.now;
  context = tree_of (value_expr it.context.now);
}

-- why a request isn't one of a schema, as plain data
pub data PlainRequestFault : Type 0 where
  unknown_action : PlainUid → PlainRequestFault
  external : PlainUid → PlainRequestFault
  principal_not_allowed : PlainName → PlainRequestFault
  resource_not_allowed : PlainName → PlainRequestFault
  lacks_choice : PlainUid → PlainRequestFault
  context_fault : PlainFault → PlainRequestFault
  out_of_memory : PlainRequestFault

-- what a fault of a request stands for
abbrev pub request_fault_of : RequestFault → PlainRequestFault
request_fault_of (fault.UnknownAction uid) = unknown_action (uid_of uid)
request_fault_of (fault.External uid) = external (uid_of uid)
request_fault_of (fault.PrincipalNotAllowed ty) = principal_not_allowed (type_name ty)
request_fault_of (fault.ResourceNotAllowed ty) = resource_not_allowed (type_name ty)
request_fault_of (fault.NoSuchChoice uid) = lacks_choice (uid_of uid)
request_fault_of (fault.Context found) = context_fault (fault_of found)
request_fault_of (fault.Memory refused) = out_of_memory

-- a fault is true of a request that is held against its action
abbrev pub IsFaultOfAction : Extensions → PlainSchema → PlainRequest → SchemaAction
    → PlainRequestFault → Type 0
IsFaultOfAction extensions schema it action (external uid) =
    (uid ≡ it.action) × (action.kind ≡ external_action)
IsFaultOfAction extensions schema it action (principal_not_allowed name) =
    (name ≡ it.principal.ty) × ¬ Contains (kind_principals action.kind) name
IsFaultOfAction extensions schema it action (resource_not_allowed name) =
    (name ≡ it.resource.ty) × ¬ Contains (kind_resources action.kind) name
IsFaultOfAction extensions schema it action (context_fault fault) =
    (ty : Ty) × (kind_context action.kind ≡ Some ty)
    × IsValueFault extensions schema it.context ty fault
IsFaultOfAction extensions schema it action _ = ⊥

-- a fault is true of a request that is held against a schema
abbrev pub IsRequestFault : Extensions → PlainSchema → PlainRequest → PlainRequestFault → Type 0
IsRequestFault extensions schema it (unknown_action uid) =
    (uid ≡ it.action) × ¬ HasAction schema uid
IsRequestFault extensions schema it (lacks_choice uid) =
    ((uid ≡ it.principal) ⊎ (uid ≡ it.resource)) × ¬ MayHaveId schema uid
IsRequestFault extensions schema it fault =
    (action : SchemaAction) × Contains schema.actions (it.action, action)
    × IsFaultOfAction extensions schema it action fault

-- what is found of a request: that it is one of the schema, or a fault that is true of it
abbrev pub IsRequestAnswer : Extensions → PlainSchema → PlainRequest → Option PlainRequestFault
    → Type 0
IsRequestAnswer extensions schema it None = IsRequestIn extensions schema it
IsRequestAnswer extensions schema it (Some fault) =
    (¬ IsRequestIn extensions schema it) × IsRequestFault extensions schema it fault

-- a request is refused for want of memory, or for a fault that is true of it
abbrev pub IsRequestRefusal : Extensions → PlainSchema → PlainRequest → PlainRequestFault → Type 0
IsRequestRefusal extensions schema it out_of_memory = Unit {0}
IsRequestRefusal extensions schema it fault = IsRequestFault extensions schema it fault

-- what is found of the ids of a request's principal and resource: that they may have them, or one
-- that may not
abbrev pub IsIdsAnswer : PlainSchema → PlainRequest → Option PlainRequestFault → Type 0
IsIdsAnswer schema it None = MayHaveId schema it.principal × MayHaveId schema it.resource
IsIdsAnswer schema it (Some (lacks_choice uid)) =
    ((uid ≡ it.principal) ⊎ (uid ≡ it.resource)) × ¬ MayHaveId schema uid
IsIdsAnswer schema it (Some fault) = ⊥

-- a request is as its action wants it: of its principals and its resources, with a context of its
-- type that names what exists
abbrev pub FitsAction : Extensions → PlainSchema → PlainRequest → SchemaAction → Type 0
FitsAction extensions schema it action =
    Contains (kind_principals action.kind) it.principal.ty
    × Contains (kind_resources action.kind) it.resource.ty
    × ((ty : Ty) × (kind_context action.kind ≡ Some ty) × Has extensions it.context ty
    × NamesWhatExists schema it.context)

-- what is found of a request that is held against its action: that it is as it has to be, or a fault
-- that is true of it
abbrev pub IsActionAnswer : Extensions → PlainSchema → PlainRequest → SchemaAction
    → Option PlainRequestFault → Type 0
IsActionAnswer extensions schema it action None = FitsAction extensions schema it action
IsActionAnswer extensions schema it action (Some fault) =
    (¬ FitsAction extensions schema it action)
    × IsFaultOfAction extensions schema it action fault
