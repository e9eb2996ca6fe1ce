use Rattle.std.proofs.Common.{◌≡◌, ◌++◌, List, [], map, ap, subst, ◌∙◌}
use Rattle.cedar_schema_elements.proofs.EnvironmentLemmas.{are_environments, environments_under, of_action, pairs_once}
use Rattle.cedar_schema_elements.proofs.GivenLemmas.{given_all, given_more, given_none, given_nothing, given_once}
use Rattle.cedar_schema_elements.proofs.KeyLemmas.{uids_once, under}
use Rattle.cedar_schema_elements.proofs.TypeSetLemmas.{set_once}
use Rattle.cedar_schema_elements.proofs.request_environments.environments.Goals as goal
use Rattle.cedar_schema_elements.specs.Words.{Environment, Twice, action_of, kind_environments, kind_of_requests, owned_environment, plain_action_entry, requested_principals, requested_resources, ty_of, uid_of}

-- at first no environment is given, and all actions are left
pub loop-uid-init : goal.loop-uid-init
loop-uid-init c =
    given_none environments_under under [] (map plain_action_entry c.args.actions.now.entries) _ _
    (ap (map plain_action_entry) c.into_iter-uid-iterator.ensures.into_iter_gives.0)
    (ap (map owned_environment) c.in_ok-environments.ensures.items)
    (uids_once c.args.actions.now.entries c.into_iter-uid-iterator.ensures.into_iter_gives.1)

-- an action that is defined gives each pair of its principals and resources
pub loop-uid-preserved-in-Some-found : goal.loop-uid-preserved-in-Some-found
loop-uid-preserved-in-Some-found c =
    let uid = uid_of c.in-Some.uid.now in
    let requests = c.in-Some-found.requests.value in
    let same : kind_environments (uid_of requests.action) (kind_of_requests requests)
    ≡ kind_environments uid (action_of c.in-Some.action.now).kind =
    let same_uid : uid_of requests.action ≡ uid = rw c.in-Some-found.is at c.in_ok-found.ensures.action in
    let same_kind : kind_of_requests requests ≡ (action_of c.in-Some.action.now).kind =
    rw c.in-Some-found.is at c.in_ok-found.ensures.kind in
    λ i. kind_environments (same_uid i) (same_kind i) in
    let AreOnce : List Environment → Type 0 = λ items. (it : Environment) → ¬ Twice items it in
    given_more environments_under under [] (map plain_action_entry c.args.actions.now.entries) (λ it. it.action) of_action _ _ _ _
    (plain_action_entry (c.in-Some.uid.now, c.in-Some.action.now)) (ap (map plain_action_entry) c.in-Some.ensures.steps)
    (c.in_ok-add_principals.ensures ∙ ap (λ items. map owned_environment c.loop-uid.environments.items ++ items) same)
    (subst AreOnce same (pairs_once (uid_of requests.action) (ty_of requests.context) (requested_principals requests)
    (requested_resources requests) (set_once requests.principals) (set_once requests.resources)))
    c.loop-uid.invariant

-- an action that isn't defined gives none
pub loop-uid-preserved : goal.loop-uid-preserved
loop-uid-preserved c =
    let uid = uid_of c.in-Some.uid.now in
    given_nothing environments_under under [] (map plain_action_entry c.args.actions.now.entries) (λ it. it.action) of_action _ _ _
    (plain_action_entry (c.in-Some.uid.now, c.in-Some.action.now)) (ap (map plain_action_entry) c.in-Some.ensures.steps)
    (ap (kind_environments uid) (rw c.in_default.is at c.in_ok-found.ensures.external))
    c.loop-uid.invariant

-- where no action is left, the environments of all are given, each once
pub returns : goal.returns
returns c =
    let actions = map plain_action_entry c.args.actions.now.entries in
    let done = ap (map plain_action_entry) c.in-None.ensures.steps.0 in
    are_environments c.args.actions.now.entries (map owned_environment c.loop-uid.environments.items)
    (given_all environments_under under [] actions _ _ done c.loop-uid.invariant)
    (given_once environments_under under [] actions _ _ done c.loop-uid.invariant)
