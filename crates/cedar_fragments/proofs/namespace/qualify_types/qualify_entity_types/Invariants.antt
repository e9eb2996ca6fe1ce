use Rattle.std.specs.Vec.Iter.{into_iter_items}
use Rattle.cedar_fragments.proofs.namespace.qualify_types.qualify_entity_types.Given as goal
use Rattle.cedar_fragments.specs.Words.{Entity, ResolvesReference, held_names, namespace_name, resolved_reference}
use Rattle.cedar_name_resolution.proofs.Pairwise.{TurnSoFar}

abbrev pub invariant-loop-name : goal.invariant-loop-name
invariant-loop-name g l =
    let refer = g.N.WrittenName.refer (namespace_name l.namespace) in
    TurnSoFar (ResolvesReference (held_names l.all_defs)) (refer Entity) (resolved_reference Entity) l.fn.names.items
    l.qualified.items (into_iter_items l.name-iterator)
