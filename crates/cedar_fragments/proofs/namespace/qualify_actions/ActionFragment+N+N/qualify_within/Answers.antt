use Rattle.std.proofs.Common.{Option, map, Contains}
use Rattle.cedar_fragments.proofs.namespace.qualify_actions.ActionFragment+N+N.qualify_within.Goals as goal
use Rattle.cedar_fragments.specs.Words.{ActionRequests, HasToResolveFor, HasToResolveIn, IsParentIn, IsPrincipalOrResource, IsRequestedIn, action, action_fragment_body, fault_of, fragment_parent, fragment_requests, held_names, namespace_name}
use Rattle.cedar_name_resolution.proofs.ExitLemmas.{exit_holds}
use Rattle.cedar_name_resolution.proofs.RefusedLemmas.{unresolvable_wider}

pub returns-in_err-parents-clause-fault : goal.returns-in_err-parents-clause-fault
returns-in_err-parents-clause-fault g c =
    let N = g.row.N.Denot in
    let refer = g.N.WrittenName.refer (namespace_name c.args.namespace) in
    let names = held_names c.args.all_defs.now in
    let body = action (action_fragment_body N refer N refer c.args.self) in
    exit_holds _ _ _ c.from_residual.ensures.1
    (unresolvable_wider names (λ reference. ⊥) (HasToResolveIn body)
    (Contains (map (fragment_parent N refer) c.args.self.parents.items)) (IsParentIn body) (λ reference. ⊥)
    (IsRequestedIn body) (λ reference none. absurd none) (λ parent among. among) (λ reference none. absurd none) _
    c.in_err-parents.ensures.fault)

pub returns-in_err-qualify_requests-in-Some-clause-fault : goal.returns-in_err-qualify_requests-in-Some-clause-fault
returns-in_err-qualify_requests-in-Some-clause-fault g c =
    let N = g.row.N.Denot in
    let refer = g.N.WrittenName.refer (namespace_name c.args.namespace) in
    let names = held_names c.args.all_defs.now in
    let body = action (action_fragment_body N refer N refer c.args.self) in
    let fault = fault_of (c.in_err-qualify_requests-in-Some).field-0.0 in
    let requests : Option (ActionRequests N) = c.args.self.requests in
    exit_holds _ _ _ (c.from_residual-in_err-qualify_requests-in-Some).ensures.1
    (unresolvable_wider names (HasToResolveFor (fragment_requests N refer requests)) (HasToResolveIn body)
    (λ parent. ⊥) (IsParentIn body) (IsPrincipalOrResource (fragment_requests N refer requests)) (IsRequestedIn body)
    (λ reference has_to. has_to) (λ parent none. absurd none) (λ reference place. place) fault
    (rw c.in-Some.is (c.in_err-qualify_requests-in-Some).ensures.fault))
