use Rattle.std.proofs.Common.{◌∷◌, refl, inl, ap, arith}
use Rattle.std.proofs.lemmas.List.{nil_from_length}
use Rattle.std.specs.List.{flat_map}
use Rattle.cedar_ast.proofs.Basics.{Contains-image}
use Rattle.cedar_fragments.proofs.UnresolvableLemmas.{to_resolve, resolves_declared}
use Rattle.cedar_fragments.proofs.namespace.common_types.CommonTypeDefs.qualify_within.Goals as goal
use Rattle.cedar_fragments.specs.Words.{HasToResolve, InternalName, Refers, common_type, common_type_declarations, common_type_locs, held_names, located_common_names, name_loc, name_of, namespace_name, no_locs, resolved_expr, type_expr}
use Rattle.cedar_name_resolution.proofs.ExitLemmas.{exit_holds}
use Rattle.cedar_name_resolution.proofs.OneMore.{flat_one_more, one_more}
use Rattle.cedar_name_resolution.proofs.Pairwise.{turn_none, turn_more, turn_all, turn_next}
use Rattle.cedar_name_resolution.proofs.RefusedLemmas.{refused_wider}

-- at first no common type is resolved
pub loop-def-init : goal.loop-def-init
loop-def-init g c =
    let nothing = c.in_ok-defs.ensures.items in (
      turn_none _ _ _ _ _ _ c.into_iter-def-iterator.ensures.into_iter_gives.0 nothing,
      ap (flat_map (common_type_locs InternalName no_locs)) nothing,
      ap (located_common_names InternalName) nothing,
    )

-- references that one of them refuses are among those of all
pub returns-in_err-ty-clause-refused : goal.returns-in_err-ty-clause-refused
returns-in_err-ty-clause-refused g c =
    let N = g.row.N.Denot in
    let refer = g.N.WrittenName.refer (namespace_name c.args.namespace) in
    let names = held_names c.args.all_defs.now in
    let bag = common_type_declarations N refer c.args.self in
    let among = Contains-image _ c.args.self.defs.items c.in-Some.def
    (turn_next _ _ _ _ _ _ _ c.in-Some.def c.in-Some.ensures.steps.0 c.loop-def.invariant.0) in
    exit_holds _ _ _ c.from_residual-in_err-ty.ensures.1
    (refused_wider names (Refers (type_expr N refer c.in-Some.def.ty)) (HasToResolve bag)
    (λ reference refers. to_resolve bag _ among reference (inl (type_expr N refer c.in-Some.def.ty, refl, refers))) _ c.in_err-ty.ensures.refused)

-- one more common type is resolved and keeps its locations
pub loop-def-preserved : goal.loop-def-preserved
loop-def-preserved g c =
    let N = g.row.N.Denot in
    let refer = g.N.WrittenName.refer (namespace_name c.args.namespace) in (
      turn_more _ _ _ _ _ _ _ _ c.in-Some.def _ c.in-Some.ensures.steps.0 c.in_ok-push.ensures.items
          (resolves_declared (held_names c.args.all_defs.now) (name_of c.in-Some.def.name) (common_type (type_expr N refer c.in-Some.def.ty))
          (common_type (resolved_expr c.in_ok-ty.ty)) c.in_ok-ty.ensures.resolved) c.loop-def.invariant.0,
      flat_one_more (common_type_locs InternalName no_locs) (common_type_locs N no_locs) c.loop-def.defs.items _
          c.loop-def.yielded _ c.in-Some.def c.in_ok-push.ensures.items c.loop-def.invariant.1
          (ap (λ locs. name_loc c.in-Some.def.name ∷ locs) c.in_ok-ty.ensures.locs),
      one_more _ _ c.loop-def.defs.items _ c.loop-def.yielded _ c.in-Some.def c.in_ok-push.ensures.items c.loop-def.invariant.2 refl,
    )

-- at the end all are
pub returns-clause-resolved : goal.returns-clause-resolved
returns-clause-resolved g c =
    turn_all _ _ _ _ _ _ (nil_from_length _ (omega (arith, c.in-None.ensures.steps.0, c.loop-def.def-iterator.rest.ok.0))) c.loop-def.invariant.0
