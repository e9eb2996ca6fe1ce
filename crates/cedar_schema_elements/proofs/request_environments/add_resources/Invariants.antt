use Rattle.std.proofs.Common.{◌≡◌, ◌++◌, map, take}
use Rattle.std.specs.List.{flat_map}
use Rattle.cedar_schema_elements.proofs.EnvironmentLemmas.{resource_environments}
use Rattle.cedar_schema_elements.proofs.request_environments.add_resources.Given as goal
use Rattle.cedar_schema_elements.specs.Words.{owned_environment, requested_resources, set_name_at, ty_of, uid_of}

abbrev pub invariant-loop-resource : goal.invariant-loop-resource
invariant-loop-resource l =
    map owned_environment l.environments.items ≡ map owned_environment l.initial.environments.items
    ++ flat_map (resource_environments (uid_of l.requests.value.action) (ty_of l.requests.value.context)
    (set_name_at l.requests.value.principals l.principal))
    (take l.resource (requested_resources l.requests.value))
