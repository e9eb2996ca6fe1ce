use Rattle.std.proofs.Common.{◌≡◌, ◌++◌, map, take}
use Rattle.cedar_schema_elements.proofs.request_environments.add_principals.Given as goal
use Rattle.cedar_schema_elements.specs.Words.{owned_environment, requested_principals, requested_resources, ty_of, uid_of, with_principals}

abbrev pub invariant-loop-principal : goal.invariant-loop-principal
invariant-loop-principal l =
    map owned_environment l.environments.items ≡ map owned_environment l.initial.environments.items
    ++ with_principals (uid_of l.requests.value.action) (ty_of l.requests.value.context)
    (take l.principal (requested_principals l.requests.value)) (requested_resources l.requests.value)
