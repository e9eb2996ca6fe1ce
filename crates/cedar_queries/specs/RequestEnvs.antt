-- The environments of requests, one after another.
use Rattle.std.specs.Prelude.{List, map}
use Rattle.std.specs.Slice.Iter.{iter_rest}
use Rattle.cedar_queries.specs.declared.environments.RequestEnvs.{RequestEnvs}
use Rattle.cedar_schema_elements.specs.RequestEnv.{owned_environment}
use Rattle.cedar_schema_semantics.specs.Environments.{Environment}

-- what an iterator over environments has left
abbrev pub environments_left : RequestEnvs → List Environment
environments_left it = map owned_environment (iter_rest it.rest)
