use Rattle.std.proofs.Common.{◌≡◌}
use Rattle.std.specs.List.{flat_map}
use Rattle.std.specs.Vec.Iter.{into_iter_items}
use Rattle.cedar_fragments.proofs.ResolvedBags.{ResolvesUnreserved}
use Rattle.cedar_fragments.proofs.namespace.qualify_actions.ActionsDef+N+N.qualify_within.Given as goal
use Rattle.cedar_fragments.specs.Words.{EntityType, InternalName, action, action_def_locs, action_fragment_body, declared_action, held_names, namespace_name, no_locs, resolved_action_type, resolved_reference, uid_of}
use Rattle.cedar_name_resolution.proofs.Pairwise.{TurnSoFar}

abbrev pub invariant-loop-def : goal.invariant-loop-def
invariant-loop-def g l =
    let N = g.row.N.Denot in
    let refer = g.N.WrittenName.refer (namespace_name l.namespace) in
    TurnSoFar (ResolvesUnreserved (held_names l.all_defs))
    (λ def. declared_action (uid_of def.uid) (action (action_fragment_body N refer N refer def.fragment)))
    (λ def. declared_action (uid_of def.uid) (action (action_fragment_body InternalName resolved_reference EntityType resolved_action_type def.fragment)))
    l.fn.self.defs.items l.defs.items (into_iter_items l.def-iterator)
    × (flat_map (action_def_locs InternalName no_locs EntityType no_locs) l.defs.items
    ≡ flat_map (action_def_locs N no_locs N no_locs) l.yielded)
