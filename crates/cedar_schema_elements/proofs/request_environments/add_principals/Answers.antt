use Rattle.std.proofs.Common.{rules, ◌<◌, ◌≤◌, List, length, map, sym}
use Rattle.std.proofs.lemmas.List.{append-nil}
use Rattle.cedar_schema_elements.proofs.GivenLemmas.{taken_all, taken_more}
use Rattle.cedar_schema_elements.proofs.request_environments.add_principals.Goals as goal
use Rattle.cedar_schema_elements.specs.Words.{Environment, PlainName, DefinedRequests, empty_name, owned_environment, requested_principals, requested_resources, ty_of, uid_of, with_resources}

-- what a principal gives
abbrev given : DefinedRequests → PlainName → List Environment
given requests principal =
    with_resources (uid_of requests.action) (ty_of requests.context) principal (requested_resources requests)

-- at first no environment is added
pub loop-principal-init : goal.loop-principal-init
loop-principal-init c = sym (append-nil (map owned_environment c.args.environments.now.items))

-- one more principal gives its environments
pub loop-principal-preserved : goal.loop-principal-preserved
loop-principal-preserved c =
    let requests = c.args.requests.now.value in
    let below : c.loop-principal.principal < length (requested_principals requests) = search rules in
    taken_more (given requests) (map owned_environment c.args.environments.now.items)
    (map owned_environment c.loop-principal.environments.items) _ (requested_principals requests) c.loop-principal.principal empty_name below
    c.in_ok-add_resources.ensures c.loop-principal.invariant

-- where no principal is left, the environments of all are added
pub returns : goal.returns
returns c =
    let requests = c.args.requests.now.value in
    let all : length (requested_principals requests) ≤ c.loop-principal.principal = search rules in
    taken_all (given requests) (map owned_environment c.args.environments.now.items) _ (requested_principals requests)
    c.loop-principal.principal all c.loop-principal.invariant
