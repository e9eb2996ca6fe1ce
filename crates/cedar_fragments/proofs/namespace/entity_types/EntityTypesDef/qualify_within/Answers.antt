use Rattle.std.proofs.Common.{◌∷◌, ap, arith}
use Rattle.std.proofs.lemmas.List.{nil_from_length}
use Rattle.std.specs.List.{flat_map}
use Rattle.cedar_ast.proofs.Basics.{Contains-image}
use Rattle.cedar_fragments.proofs.UnresolvableLemmas.{to_resolve, resolves_declared}
use Rattle.cedar_fragments.proofs.namespace.entity_types.EntityTypesDef.qualify_within.Goals as goal
use Rattle.cedar_fragments.specs.Words.{HasToResolve, HasToResolveIn, InternalName, entity_type, entity_type_declarations, entity_type_locs, fragment_body, held_names, namespace_name, no_locs, resolved_reference, type_loc, type_name}
use Rattle.cedar_name_resolution.proofs.ExitLemmas.{exit_holds}
use Rattle.cedar_name_resolution.proofs.OneMore.{flat_one_more}
use Rattle.cedar_name_resolution.proofs.Pairwise.{turn_none, turn_more, turn_all, turn_next}
use Rattle.cedar_name_resolution.proofs.RefusedLemmas.{refused_wider}

-- at first no entity type is resolved
pub loop-def-init : goal.loop-def-init
loop-def-init g c = (
  turn_none _ _ _ _ _ _ c.into_iter-def-iterator.ensures.into_iter_gives.0 c.in_ok-defs.ensures.items,
  ap (flat_map (entity_type_locs InternalName no_locs)) c.in_ok-defs.ensures.items,
)

-- references that one of them refuses are among those of all
pub returns-in_err-fragment-clause-refused : goal.returns-in_err-fragment-clause-refused
returns-in_err-fragment-clause-refused g c =
    let N = g.row.N.Denot in
    let refer = g.N.WrittenName.refer (namespace_name c.args.namespace) in
    let names = held_names c.args.all_defs.now in
    let bag = entity_type_declarations N refer c.args.self in
    let body = entity_type (fragment_body N refer c.in-Some.def.fragment) in
    let among = Contains-image _ c.args.self.defs.items c.in-Some.def
    (turn_next _ _ _ _ _ _ _ c.in-Some.def c.in-Some.ensures.steps.0 c.loop-def.invariant.0) in
    exit_holds _ _ _ c.from_residual-in_err-fragment.ensures.1
    (refused_wider names (HasToResolveIn body) (HasToResolve bag) (to_resolve bag _ among) _ c.in_err-fragment.ensures.refused)

-- one more entity type is resolved and keeps its locations
pub loop-def-preserved : goal.loop-def-preserved
loop-def-preserved g c =
    let N = g.row.N.Denot in
    let refer = g.N.WrittenName.refer (namespace_name c.args.namespace) in (
      turn_more _ _ _ _ _ _ _ _ c.in-Some.def _ c.in-Some.ensures.steps.0 c.in_ok-push.ensures.items
          (resolves_declared (held_names c.args.all_defs.now) (type_name c.in-Some.def.name)
          (entity_type (fragment_body N refer c.in-Some.def.fragment))
          (entity_type (fragment_body InternalName resolved_reference c.in_ok-fragment.fragment)) c.in_ok-fragment.ensures.resolved)
          c.loop-def.invariant.0,
      flat_one_more (entity_type_locs InternalName no_locs) (entity_type_locs N no_locs) c.loop-def.defs.items _
          c.loop-def.yielded _ c.in-Some.def c.in_ok-push.ensures.items c.loop-def.invariant.1
          (ap (λ locs. type_loc c.in-Some.def.name ∷ locs) c.in_ok-fragment.ensures.locs),
    )

-- at the end all are
pub returns-clause-resolved : goal.returns-clause-resolved
returns-clause-resolved g c =
    turn_all _ _ _ _ _ _ (nil_from_length _ (omega (arith, c.in-None.ensures.steps.0, c.loop-def.def-iterator.rest.ok.0))) c.loop-def.invariant.0
