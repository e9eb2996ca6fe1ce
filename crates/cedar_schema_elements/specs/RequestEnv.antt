use Rattle.std.specs.List.{slice_get}
use Rattle.std.specs.Prelude.{ℕ, Option, Some}
use Rattle.cedar_ast.specs.Words.{type_name, uid_of}
use Rattle.cedar_ast.specs.declared.entity_type.EntityType.{EntityType}
use Rattle.cedar_ast.specs.declared.entity_uid.EntityUID.{EntityUID}
use Rattle.cedar_schema_elements.specs.TypeSet.{set_name_at, set_types}
use Rattle.cedar_schema_elements.specs.declared.action_kind.DefinedRequests.{DefinedRequests}
use Rattle.cedar_schema_elements.specs.declared.request_env.RequestEnv.{RequestEnv}
use Rattle.cedar_schema_elements.specs.declared.request_env.UnlinkedRequestEnv.{UnlinkedRequestEnv}
use Rattle.cedar_schema_semantics.specs.Environments.{Environment}
use Rattle.cedar_types.specs.Meaning.{ty_of}
use Rattle.cedar_types.specs.declared.types.Type.{«Type»}

-- the types of a request as plain data
abbrev pub environment_of : RequestEnv → Environment
environment_of it = record {
  principal = type_name it.principal.now;
  action = uid_of it.action.now;
  resource = type_name it.resource.now;
  context = ty_of it.context.now;
}

-- the types of the request whose principal and resource stand at these places
abbrev pub environment_at : DefinedRequests → ℕ → ℕ → Environment
environment_at it principal resource = record {
  principal = set_name_at it.principals principal;
  action = uid_of it.action;
  resource = set_name_at it.resources resource;
  context = ty_of it.context;
}

-- the types of a request that are held apart from the schema, as plain data
abbrev pub owned_environment : UnlinkedRequestEnv → Environment
owned_environment it = environment_at it.requests.value it.principal it.resource

-- the types of a request with where they were written: those of the principal and of the resource,
-- where there are such, the action, and the type of the context
pub record LocatedEnvironment : Type 0 where
  pub principal : Option EntityType
  pub action : EntityUID
  pub resource : Option EntityType
  pub context : «Type»

-- those that are lent
abbrev pub lent_environment : RequestEnv → LocatedEnvironment
lent_environment it = record {
  principal = Some it.principal.now;
  action = it.action.now;
  resource = Some it.resource.now;
  context = it.context.now;
}

-- those of the request whose principal and resource stand at these places
abbrev pub located_environment_at : DefinedRequests → ℕ → ℕ → LocatedEnvironment
located_environment_at it principal resource = record {
  principal = slice_get (set_types it.principals) principal;
  action = it.action;
  resource = slice_get (set_types it.resources) resource;
  context = it.context;
}

-- those of a request that are held apart from the schema
abbrev pub located_environment : UnlinkedRequestEnv → LocatedEnvironment
located_environment it = located_environment_at it.requests.value it.principal it.resource
