use Rattle.std.proofs.Common.{◌≡◌}
use Rattle.std.specs.List.{flat_map}
use Rattle.std.specs.Vec.Iter.{into_iter_items}
use Rattle.cedar_fragments.proofs.namespace.qualify_actions.qualify_parents.Given as goal
use Rattle.cedar_fragments.specs.Words.{EntityType, ResolvesParent, fragment_parent, held_names, namespace_name, no_locs, parent_locs, resolved_action_type}
use Rattle.cedar_name_resolution.proofs.Pairwise.{TurnSoFar}

abbrev pub invariant-loop-parent : goal.invariant-loop-parent
invariant-loop-parent g l =
    let N = g.row.N.Denot in
    let refer = g.N.WrittenName.refer (namespace_name l.namespace) in
    TurnSoFar (ResolvesParent (held_names l.all_defs)) (fragment_parent N refer)
    (fragment_parent EntityType resolved_action_type) l.fn.parents.items l.qualified.items (into_iter_items l.parent-iterator)
    × (flat_map (parent_locs EntityType no_locs) l.qualified.items ≡ flat_map (parent_locs N no_locs) l.yielded)
