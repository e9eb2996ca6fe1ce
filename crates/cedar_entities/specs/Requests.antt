-- The requests that a schema admits.
use Rattle.std.specs.Prelude.{◌≡◌}
use Rattle.cedar_ast.specs.Words.{IsValue, PlainName, PlainUid, Tree, uid_value}
use Rattle.cedar_ast.specs.declared.extension.Extensions.{Extensions}
use Rattle.cedar_entities.specs.Exists.{MayHaveId}
use Rattle.cedar_entities.specs.Naming.{NamesWhatExists}
use Rattle.cedar_schema_semantics.specs.Words.{Environment, IsEnvironmentOf, PlainSchema}
use Rattle.cedar_type_rules.specs.Has.{Has}

-- a request as plain data
pub record PlainRequest : Type 0 where
  pub principal : PlainUid
  pub action : PlainUid
  pub resource : PlainUid
  pub context : Tree

-- a request is one of the language: its uids and its context are
abbrev pub IsRealRequest : PlainRequest → Type 0
IsRealRequest it =
    IsValue (uid_value it.principal) × IsValue (uid_value it.action)
    × IsValue (uid_value it.resource) × IsValue it.context

-- the request is of a principal and a resource of these types, and of this action
pub record IsOfTypes (principal : PlainName) (action : PlainUid) (resource : PlainName)
    (it : PlainRequest) : Type 0 where
  pub principal_type : it.principal.ty ≡ principal
  pub of_action : it.action ≡ action
  pub resource_type : it.resource.ty ≡ resource

-- a request of a schema: some environment has the types of its principal and resource and its
-- action, the context has the environment's type and names what exists, and principal and resource
-- may have their ids
abbrev pub IsRequestIn : Extensions → PlainSchema → PlainRequest → Type 0
IsRequestIn extensions schema it =
    (environment : Environment) × IsEnvironmentOf schema environment
    × IsOfTypes environment.principal environment.action environment.resource it
    × Has extensions it.context environment.context
    × NamesWhatExists schema it.context
    × MayHaveId schema it.principal × MayHaveId schema it.resource
