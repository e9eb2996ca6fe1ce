use Rattle.std.proofs.Common.{map, Contains, Some, refl, inl, inr}
use Rattle.std.proofs.lemmas.Result.{err_from_is_err_and}
use Rattle.cedar_fragments.proofs.LocLemmas.{kept_beside_names}
use Rattle.cedar_fragments.proofs.namespace.qualify_actions.qualify_requests.Goals as goal
use Rattle.cedar_fragments.specs.Words.{Entity, HasToResolveFor, IsPrincipalOrResource, IsUnresolvable, Refers, fragment_requests, held_names, namespace_name, qualify_fault, type_expr}
use Rattle.cedar_name_resolution.proofs.ExitLemmas.{exit_holds}
use Rattle.cedar_name_resolution.proofs.RefusedLemmas.{refused_unresolvable, refused_wider, unresolvable_wider}

-- a fault of the principals is one of the requests
pub returns-in_err-principals-clause-fault : goal.returns-in_err-principals-clause-fault
returns-in_err-principals-clause-fault g c =
    let N = g.row.N.Denot in
    let refer = g.N.WrittenName.refer (namespace_name c.args.namespace) in
    let names = held_names c.args.all_defs.now in
    let it = fragment_requests N refer (Some c.args.requests) in
    let all = map (refer Entity) c.args.requests.principals.items in
    exit_holds _ _ _ c.from_residual.ensures.1
    (unresolvable_wider names (Contains all) (HasToResolveFor it) (λ parent. ⊥) (λ parent. ⊥) (Contains all) (IsPrincipalOrResource it)
    (λ reference among. inr (inl among)) (λ parent none. none) (λ reference among. inl among) _ c.in_err-principals.ensures.fault)

-- a fault of the resources too
pub returns-in_err-resources-clause-fault : goal.returns-in_err-resources-clause-fault
returns-in_err-resources-clause-fault g c =
    let N = g.row.N.Denot in
    let refer = g.N.WrittenName.refer (namespace_name c.args.namespace) in
    let names = held_names c.args.all_defs.now in
    let it = fragment_requests N refer (Some c.args.requests) in
    let all = map (refer Entity) c.args.requests.resources.items in
    exit_holds _ _ _ c.from_residual-in_err-resources.ensures.1
    (unresolvable_wider names (Contains all) (HasToResolveFor it) (λ parent. ⊥) (λ parent. ⊥) (Contains all) (IsPrincipalOrResource it)
    (λ reference among. inr (inr among)) (λ parent none. none) (λ reference among. inr among) _ c.in_err-resources.ensures.fault)

-- and one of the context
pub returns-in_err-context-clause-fault : goal.returns-in_err-context-clause-fault
returns-in_err-context-clause-fault g c =
    let N = g.row.N.Denot in
    let refer = g.N.WrittenName.refer (namespace_name c.args.namespace) in
    let names = held_names c.args.all_defs.now in
    let it = fragment_requests N refer (Some c.args.requests) in
    let context = (type_expr N refer) c.args.requests.context in
    let at_fault : IsUnresolvable names (HasToResolveFor it) (λ parent. ⊥) (IsPrincipalOrResource it) (qualify_fault c.in_err-context.field-0.0) =
    refused_unresolvable names (HasToResolveFor it) (λ parent. ⊥) (IsPrincipalOrResource it) _
    (refused_wider names (Refers context) (HasToResolveFor it) (λ reference refers. inl (context, refl, refers)) _
    c.in_err-context.ensures.refused) in
    let p = err_from_is_err_and c.from_residual-in_err-context.result c.from_residual-in_err-context.ensures.1 in
    rw (p.1, p.2) at_fault

-- neither principals nor resources are reserved
pub returns-clause-unreserved : goal.returns-clause-unreserved
returns-clause-unreserved g c reference name place resolves = elim place [
  | inl among ↦ c.in_ok-principals.ensures.unreserved reference name among resolves
  | inr among ↦ c.in_ok-resources.ensures.unreserved reference name among resolves
]

-- the locations of the context are kept
pub returns-clause-locs : goal.returns-clause-locs
returns-clause-locs g c =
    kept_beside_names c.in_ok-principals.principals.items c.in_ok-resources.resources.items c.args.requests.principals.items
    c.args.requests.resources.items c.in_ok-context.ensures.locs
