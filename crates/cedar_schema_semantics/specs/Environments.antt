use Rattle.std.specs.Prelude.{◌≡◌, ◌≢◌, ◌↔◌, List, AllPairs, Contains}
use Rattle.cedar_ast.specs.Words.{PlainName, PlainUid}
use Rattle.cedar_ast.specs.declared.extension.Extensions.{Extensions}
use Rattle.cedar_schema_ast.specs.ActionBody.{Requests, requests, elsewhere}
use Rattle.cedar_schema_semantics.specs.Bag.{Bag, definitions}
use Rattle.cedar_schema_semantics.specs.DeclaredSchema.{IsNamedBy}
use Rattle.cedar_schema_semantics.specs.Defined.{Defined, names_of}
use Rattle.cedar_schema_semantics.specs.ElaboratesTo.{ElaboratesTo}
use Rattle.cedar_schema_semantics.specs.PlainSchema.{ActionKind, defined_action, external_action, SchemaAction, PlainSchema}
use Rattle.cedar_schema_semantics.specs.Together.{defined_actions}
use Rattle.cedar_type_rules.specs.Ty.{Ty}

-- the types of a request: those of the principal and of the resource, the action, and the type of
-- the context
pub record Environment : Type 0 where
  pub principal : PlainName
  pub action : PlainUid
  pub resource : PlainName
  pub context : Ty

-- the environment is of requests that a kind of action is for: one of its principals with one of
-- its resources, and its context
abbrev pub IsRequestOf : ActionKind → Environment → Type 0
IsRequestOf (defined_action principals resources context) it =
    Contains principals it.principal × Contains resources it.resource × (context ≡ it.context)
IsRequestOf external_action it = ⊥

-- the environment is one of the schema: it is of requests that its action is for
abbrev pub IsEnvironmentOf : PlainSchema → Environment → Type 0
IsEnvironmentOf schema it =
    (action : SchemaAction) × Contains schema.actions (it.action, action)
    × IsRequestOf action.kind it

-- the environments are just those of the schema, each once
pub record AreEnvironmentsOf (schema : PlainSchema) (environments : List Environment) : Type 0 where
  pub each : (it : Environment) → Contains environments it ↔ IsEnvironmentOf schema it
  pub once : AllPairs (λ it other. it ≢ other) environments

-- the environment is of requests that are declared: one of the principals with one of the
-- resources, and the context (the Cedar reference on schemas)
abbrev pub IsDeclaredRequest : Defined → Requests → Environment → Type 0
IsDeclaredRequest defined (requests principals resources context) it =
    IsNamedBy (names_of defined) principals it.principal
    × IsNamedBy (names_of defined) resources it.resource
    × ElaboratesTo defined context it.context
IsDeclaredRequest defined elsewhere it = ⊥

-- the environment is declared: it is of the requests that its action is defined for
abbrev pub IsDeclaredEnvironment : Bag → Extensions → Environment → Type 0
IsDeclaredEnvironment bag extensions it =
    (applies_to : Requests) × Contains (defined_actions bag) (it.action, applies_to)
    × IsDeclaredRequest (definitions bag extensions) applies_to it

-- the environments of the schema are the declared ones
abbrev pub AreDeclaredEnvironments : Bag → Extensions → PlainSchema → Type 0
AreDeclaredEnvironments bag extensions schema =
    (it : Environment) → IsEnvironmentOf schema it ↔ IsDeclaredEnvironment bag extensions it
