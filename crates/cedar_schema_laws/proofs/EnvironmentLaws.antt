-- The environments of a declared schema are the declared ones.
use Rattle.std.proofs.Common.{Contains}
use Rattle.cedar_ast.proofs.Basics.{Contains-image}
use Rattle.cedar_schema_laws.specs.Words.{ActionKind, ActionSays, Bag, Defined, Environment, Extensions, IsDeclaredActionKind, IsDeclaredEnvironment, IsDeclaredRequest, IsDeclaredSchema, IsEnvironmentOf, IsIllFormed, IsRequestOf, PlainSchema, PlainUid, Requests, TypeNamesFit, defined_action, defined_actions, definitions, duplicate_action, duplicate_common_type, elsewhere, extension_types, requests}
use Rattle.cedar_schema_semantics.proofs.BuiltInLemmas.{one_definition}
use Rattle.cedar_schema_semantics.proofs.OccurrenceLemmas.{Contains-entry}
use Rattle.cedar_schema_semantics.proofs.ResolutionLemmas.{HasOneDefinition, elaborated_once}
use Rattle.cedar_schema_semantics.proofs.TogetherLemmas.{defined_action_is_declared, action_definition_says, action_says_once}

-- requests of a declared kind of action are declared
declared_request : (defined : Defined) (declared : Requests) (kind : ActionKind) (it : Environment)
    → IsDeclaredActionKind defined declared kind → IsRequestOf kind it → IsDeclaredRequest defined declared it
declared_request defined (requests principals resources context) (defined_action ps rs ty) it fits request =
    ((fits.0 it.principal).0 request.0, (fits.1 it.resource).0 request.1, rw request.2 at fits.2)
declared_request defined elsewhere (defined_action ps rs ty) it fits request = absurd fits
declared_request _ _ _ _ fits request = absurd assumption

-- requests that are declared are those of the declared kind of action
request_of : (defined : Defined) → HasOneDefinition defined → (declared : Requests) (kind : ActionKind) (it : Environment)
    → IsDeclaredActionKind defined declared kind → IsDeclaredRequest defined declared it → IsRequestOf kind it
request_of defined one (requests principals resources context) (defined_action ps rs ty) it fits request =
    ((fits.0 it.principal).1 request.0, (fits.1 it.resource).1 request.1, elaborated_once defined one fits.2 request.2)
request_of _ _ _ _ _ fits request = absurd assumption

-- the requests of a declared kind of action whose environments there are, are those of its
-- definition
said_requests : (bag : Bag) (uid : PlainUid) (defined : Defined) (applies_to : Requests) (it : Environment)
    → ActionSays bag uid applies_to → IsDeclaredRequest defined applies_to it → Contains (defined_actions bag) (uid, applies_to)
said_requests bag uid defined (requests principals resources context) it says request = says
said_requests bag uid defined elsewhere it says request = absurd request

module _ (bag : Bag) (extensions : Extensions) (fit : TypeNamesFit (extension_types extensions))
    (well : ¬ IsIllFormed bag extensions) (schema : PlainSchema) (declared : IsDeclaredSchema bag extensions schema) where
  -- an environment of the schema is declared
  pub environment_declared : (it : Environment) → IsEnvironmentOf schema it → IsDeclaredEnvironment bag extensions it
  environment_declared it found =
      let action = declared.actions (it.action, found.0) found.1 in
      let request = declared_request (definitions bag extensions) action.applies_to found.0.kind it action.kind found.2 in (
        action.applies_to,
        said_requests bag it.action (definitions bag extensions) action.applies_to it action.says request,
        request,
      )

  -- a declared environment is one of the schema
  pub declared_environment : (it : Environment) → IsDeclaredEnvironment bag extensions it → IsEnvironmentOf schema it
  declared_environment it found =
      let defined = definitions bag extensions in
      let named = declared.each_action it.action (defined_action_is_declared bag it.action
      (Contains-image (λ (each : PlainUid × Requests). each.0) (defined_actions bag) (it.action, found.0) found.1)) in
      let there = Contains-entry schema.actions it.action named in
      let action = declared.actions (it.action, there.0) there.1 in
      let same = action_says_once bag (λ uid twice. well (duplicate_action uid, twice)) it.action action.applies_to found.0
      action.says (action_definition_says bag it.action found.0 found.1) in
      let one = one_definition bag extensions fit (λ name twice. well (duplicate_common_type name, twice)) in
      (there.0, there.1, request_of defined one found.0 there.0.kind it (rw same at action.kind) found.2)
