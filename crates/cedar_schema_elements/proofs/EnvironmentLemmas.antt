-- The environments that are listed for actions are those of the schema.
use Rattle.std.proofs.Common.{◌≡◌, ◌≢◌, ◌↔◌, List, [], ◌∷◌, ◌++◌, map, ap, sym, subst, ◌∙◌, refl, Contains, AllPairs, arith, inl, inr}
use Rattle.std.proofs.lemmas.List.{map-append, map-id}
use Rattle.std.proofs.lemmas.List.Concat.{flat_map_single}
use Rattle.cedar_ast.proofs.Basics.{Contains-image, Contains-single}
use Rattle.cedar_ast.proofs.Lists.{Contains-preimage}
use Rattle.cedar_schema_elements.proofs.GivenLemmas.{all_differ, all_once}
use Rattle.cedar_schema_elements.specs.Words.{ActionKind, AreEnvironmentsOf, ActionEntity, EntityUID, Environment, IsRequestOf, PlainName, PlainUid, SchemaAction, SchemaEntityType, Twice, Ty, UnlinkedRequestEnv, ValidatorActionId, action_environments, defined_action, external_action, kind_environments, owned_environment, plain_action_entry, schema_with, with_principals, with_resources}
use Rattle.cedar_schema_semantics.proofs.OccurrenceLemmas.{Contains-flat_map, Contains-given, Twice-distinct}

-- an environment of these parts
abbrev pub environment : PlainUid → Ty → PlainName → PlainName → Environment
environment uid context principal resource =
    record { principal = principal; action = uid; resource = resource; context = context }

-- what one resource gives
abbrev pub resource_environments : PlainUid → Ty → PlainName → PlainName → List Environment
resource_environments uid context principal resource = environment uid context principal resource ∷ []

-- its environment is of it
pub of_resource : (uid : PlainUid) (context : Ty) (principal resource : PlainName) (it : Environment)
    → Contains (resource_environments uid context principal resource) it → it.resource ≡ resource
of_resource uid context principal resource it among =
    sym (ap (λ (each : Environment). each.resource) (Contains-single (environment uid context principal resource) it among))

-- what is alone stands once
pub alone_once : {A : Type 0} (one it : A) → ¬ Twice (one ∷ []) it
alone_once one it twice = elim twice [ inl here ↦ absurd (omega (arith, here.1.1)) | inr later ↦ later ]

-- names that differ stand once
pub names_once : (names : List PlainName) → AllPairs (λ a b. a ≢ b) names → (name : PlainName) → ¬ Twice (map (λ each. each) names) name
names_once names distinct name = rw (map-id names) (Twice-distinct names name distinct)

-- the environments of a principal with resources that differ stand once
resources_once : (uid : PlainUid) (context : Ty) (principal : PlainName) (resources : List PlainName) → AllPairs (λ a b. a ≢ b) resources
    → (it : Environment) → ¬ Twice (with_resources uid context principal resources) it
resources_once uid context principal resources differ =
    rw (flat_map_single (environment uid context principal) resources) at (all_once (resource_environments uid context principal) (λ name. name) (λ it. it.resource) (of_resource uid context principal)
    (λ resource. alone_once (environment uid context principal resource)) resources (names_once resources differ))

-- what one more environment shows
pub one_more_shown : (made pushed : List UnlinkedRequestEnv) (new : UnlinkedRequestEnv) (it : Environment) → pushed ≡ made ++ new ∷ []
    → owned_environment new ≡ it → map owned_environment pushed ≡ map owned_environment made ++ it ∷ []
one_more_shown made pushed new it is same =
    ap (map owned_environment) is
    ∙ (map-append owned_environment made (new ∷ []) ∙ ap (λ each. map owned_environment made ++ each ∷ []) same)

-- the principal of the environments that it gives
pub of_principal : (uid : PlainUid) (context : Ty) (resources : List PlainName) (principal : PlainName) (it : Environment)
    → Contains (with_resources uid context principal resources) it → it.principal ≡ principal
of_principal uid context resources principal it among =
    let found = Contains-preimage (environment uid context principal) resources it among in
    sym (ap (λ (each : Environment). each.principal) found.2)

-- the environments of principals that differ with resources that differ stand once
pub pairs_once : (uid : PlainUid) (context : Ty) (principals resources : List PlainName) → AllPairs (λ a b. a ≢ b) principals
    → AllPairs (λ a b. a ≢ b) resources → (it : Environment) → ¬ Twice (with_principals uid context principals resources) it
pairs_once uid context principals resources differ others_differ =
    all_once (λ principal. with_resources uid context principal resources) (λ name. name) (λ it. it.principal)
    (of_principal uid context resources) (λ principal. resources_once uid context principal resources others_differ) principals
    (names_once principals differ)

-- an environment of an action is under its uid, and of requests that it is for
pub of_kind : (uid : PlainUid) (kind : ActionKind) (it : Environment)
    → Contains (kind_environments uid kind) it ↔ ((uid ≡ it.action) × IsRequestOf kind it)
of_kind uid external_action it = (λ among. absurd (omega (arith, among.1)), λ both. absurd both.1)
of_kind uid (defined_action principals resources context) it = (
  λ among.
      let principal = Contains-flat_map (λ each. with_resources uid context each resources) principals it among in
      let resource = Contains-preimage (environment uid context principal.0) resources it principal.2 in (
        ap (λ (each : Environment). each.action) resource.2,
        (
          rw (ap (λ (each : Environment). each.principal) resource.2) at principal.1,
          rw (ap (λ (each : Environment). each.resource) resource.2) at resource.1,
          ap (λ (each : Environment). each.context) resource.2,
        ),
      ),
  λ both.
      let is : environment uid context it.principal it.resource ≡ it = λ i. environment (both.0 i) (both.1.2 i) it.principal it.resource in
      rw is at (Contains-given (λ each. with_resources uid context each resources) principals it.principal
      (environment uid context it.principal it.resource) both.1.0
      (Contains-image (environment uid context it.principal) resources it.resource both.1.1)),
)

-- the environments of some actions
pub of_actions : (actions : List (PlainUid × SchemaAction)) (it : Environment) → Contains (action_environments actions) it
    ↔ ((action : SchemaAction) × Contains actions (it.action, action) × IsRequestOf action.kind it)
of_actions actions it = (
  λ among.
      let found = Contains-flat_map (λ (each : PlainUid × SchemaAction). kind_environments each.0 each.1.kind) actions it among in
      let both = (of_kind found.0.0 found.0.1.kind it).0 found.2 in
      (found.0.1, subst (λ uid. Contains actions (uid, found.0.1)) both.0 found.1, both.1),
  λ found.
      Contains-given (λ (each : PlainUid × SchemaAction). kind_environments each.0 each.1.kind) actions (it.action, found.0) it found.1
      ((of_kind it.action found.0.kind it).1 (refl, found.2)),
)

-- the environments of an action, under its uid
abbrev pub environments_under : PlainUid × SchemaAction → List Environment
environments_under entry = kind_environments entry.0 entry.1.kind

-- its environments are under its uid
pub of_action : (entry : PlainUid × SchemaAction) (it : Environment) → Contains (environments_under entry) it → it.action ≡ entry.0
of_action entry it among = sym ((of_kind entry.0 entry.1.kind it).0 among).0

-- what the actions of a map give are the environments of the schema
pub are_environments : (entries : List (EntityUID × ValidatorActionId)) (environments : List Environment)
    → environments ≡ action_environments (map plain_action_entry entries)
    → ((it : Environment) → ¬ Twice (action_environments (map plain_action_entry entries)) it)
    → (types : List (PlainName × SchemaEntityType)) (entities : List ActionEntity)
    → AreEnvironmentsOf (schema_with types entries entities) environments
are_environments entries environments is once types entities =
    let AreAll : List Environment → Type 0 = AreEnvironmentsOf (schema_with types entries entities) in
    let made : AreAll (action_environments (map plain_action_entry entries)) = record {
      each = of_actions (map plain_action_entry entries);
      once = all_differ (action_environments (map plain_action_entry entries)) once;
    } in
    rw is made
