use Rattle.std.proofs.Common.{◌∷◌, ap, arith}
use Rattle.std.proofs.lemmas.List.{nil_from_length}
use Rattle.std.specs.List.{flat_map}
use Rattle.cedar_ast.proofs.Basics.{Contains-image}
use Rattle.cedar_fragments.proofs.ResolvedBags.{resolved_turn, unresolvable_declaration}
use Rattle.cedar_fragments.proofs.UnresolvableLemmas.{resolves_declared_action}
use Rattle.cedar_fragments.proofs.namespace.qualify_actions.ActionsDef+N+N.qualify_within.Goals as goal
use Rattle.cedar_fragments.specs.Words.{EntityType, InternalName, action, action_def_locs, action_fragment_body, action_fragment_declarations, held_names, namespace_name, no_locs, resolved_action_type, resolved_reference, uid_loc, uid_of, uid_type_loc}
use Rattle.cedar_name_resolution.proofs.ExitLemmas.{exit_holds}
use Rattle.cedar_name_resolution.proofs.OneMore.{flat_one_more}
use Rattle.cedar_name_resolution.proofs.Pairwise.{turn_none, turn_more, turn_all, turn_next}

-- at first no action is resolved
pub loop-def-init : goal.loop-def-init
loop-def-init g c = (
  turn_none _ _ _ _ _ _ c.into_iter-def-iterator.ensures.into_iter_gives.0 c.in_ok-defs.ensures.items,
  ap (flat_map (action_def_locs InternalName no_locs EntityType no_locs)) c.in_ok-defs.ensures.items,
)

-- the fault of an action is one of all
pub returns-in_err-fragment-clause-fault : goal.returns-in_err-fragment-clause-fault
returns-in_err-fragment-clause-fault g c =
    let N = g.row.N.Denot in
    let refer = g.N.WrittenName.refer (namespace_name c.args.namespace) in
    let names = held_names c.args.all_defs.now in
    let bag = action_fragment_declarations N refer N refer c.args.self in
    let among = Contains-image _ c.args.self.defs.items c.in-Some.def
    (turn_next _ _ _ _ _ _ _ c.in-Some.def c.in-Some.ensures.steps.0 c.loop-def.invariant.0) in
    exit_holds _ _ _ c.from_residual-in_err-fragment.ensures.1
    (unresolvable_declaration names bag _ among _ c.in_err-fragment.ensures.fault)

-- one more action is resolved and keeps its locations
pub loop-def-preserved : goal.loop-def-preserved
loop-def-preserved g c =
    let N = g.row.N.Denot in
    let refer = g.N.WrittenName.refer (namespace_name c.args.namespace) in
    let uid = c.in-Some.def.uid in (
      turn_more _ _ _ _ _ _ _ _ c.in-Some.def _ c.in-Some.ensures.steps.0 c.in_ok-push.ensures.items (
        resolves_declared_action (held_names c.args.all_defs.now) (uid_of uid)
            (action (action_fragment_body N refer N refer c.in-Some.def.fragment))
            (action (action_fragment_body InternalName resolved_reference EntityType resolved_action_type c.in_ok-fragment.fragment))
            c.in_ok-fragment.ensures.resolved,
        c.in_ok-fragment.ensures.unreserved,
      ) c.loop-def.invariant.0,
      flat_one_more (action_def_locs InternalName no_locs EntityType no_locs) (action_def_locs N no_locs N no_locs)
          c.loop-def.defs.items _ c.loop-def.yielded _ c.in-Some.def c.in_ok-push.ensures.items c.loop-def.invariant.1
          (ap (λ locs. uid_loc uid ∷ uid_type_loc uid ∷ locs) c.in_ok-fragment.ensures.locs),
    )

-- at the end all actions are resolved
pub returns-clause-resolved : goal.returns-clause-resolved
returns-clause-resolved g c =
    (resolved_turn (held_names c.args.all_defs.now) _ _
    (turn_all _ _ _ _ _ _ (nil_from_length _ (omega (arith, c.in-None.ensures.steps.0, c.loop-def.def-iterator.rest.ok.0))) c.loop-def.invariant.0)).0

-- and refer to nothing that is reserved
pub returns-clause-unreserved : goal.returns-clause-unreserved
returns-clause-unreserved g c =
    (resolved_turn (held_names c.args.all_defs.now) _ _
    (turn_all _ _ _ _ _ _ (nil_from_length _ (omega (arith, c.in-None.ensures.steps.0, c.loop-def.def-iterator.rest.ok.0))) c.loop-def.invariant.0)).1
