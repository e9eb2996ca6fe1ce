use Rattle.std.proofs.Common.{rules, ◌<◌, ◌≤◌, ◌++◌, ap, length, map, sym, ◌∙◌}
use Rattle.std.proofs.lemmas.List.{append-nil}
use Rattle.std.proofs.lemmas.List.Concat.{flat_map_single}
use Rattle.cedar_schema_elements.proofs.EnvironmentLemmas.{environment, one_more_shown, resource_environments}
use Rattle.cedar_schema_elements.proofs.GivenLemmas.{taken_all, taken_more}
use Rattle.cedar_schema_elements.proofs.request_environments.add_resources.Goals as goal
use Rattle.cedar_schema_elements.specs.Words.{empty_name, environment_at, owned_environment, requested_resources, set_name_at, ty_of, uid_of}

-- at first no environment is added
pub loop-resource-init : goal.loop-resource-init
loop-resource-init c = sym (append-nil (map owned_environment c.args.environments.now.items))

-- one more resource gives one more environment
pub loop-resource-preserved : goal.loop-resource-preserved
loop-resource-preserved c =
    let requests = c.args.requests.now.value in
    let principal = set_name_at requests.principals c.args.principal in
    let place = c.loop-resource.resource in
    let below : place < length (requested_resources requests) = search rules in
    taken_more (resource_environments (uid_of requests.action) (ty_of requests.context) principal)
    (map owned_environment c.args.environments.now.items) (map owned_environment c.loop-resource.environments.items) _ (requested_resources requests) place
    empty_name below
    (one_more_shown c.loop-resource.environments.items c.push.new.self.items _ (environment_at requests c.args.principal place)
    c.in_ok-push.ensures.items c.in_ok-at.ensures.types)
    c.loop-resource.invariant

-- where no resource is left, all are added
pub returns : goal.returns
returns c =
    let requests = c.args.requests.now.value in
    let principal = set_name_at requests.principals c.args.principal in
    let all : length (requested_resources requests) ≤ c.loop-resource.resource = search rules in
    let before = map owned_environment c.args.environments.now.items in
    taken_all (resource_environments (uid_of requests.action) (ty_of requests.context) principal) before _
    (requested_resources requests) c.loop-resource.resource all c.loop-resource.invariant
    ∙ ap (λ items. before ++ items)
    (flat_map_single (environment (uid_of requests.action) (ty_of requests.context) principal) (requested_resources requests))
