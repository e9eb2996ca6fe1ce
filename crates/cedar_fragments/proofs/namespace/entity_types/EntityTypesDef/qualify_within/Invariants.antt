use Rattle.std.proofs.Common.{◌≡◌}
use Rattle.std.specs.List.{flat_map}
use Rattle.std.specs.Vec.Iter.{into_iter_items}
use Rattle.cedar_fragments.proofs.namespace.entity_types.EntityTypesDef.qualify_within.Given as goal
use Rattle.cedar_fragments.specs.Words.{InternalName, ResolvesDeclaration, declared_as, entity_type, entity_type_locs, fragment_body, held_names, namespace_name, no_locs, resolved_reference, type_name}
use Rattle.cedar_name_resolution.proofs.Pairwise.{TurnSoFar}

abbrev pub invariant-loop-def : goal.invariant-loop-def
invariant-loop-def g l =
    let N = g.row.N.Denot in
    let refer = g.N.WrittenName.refer (namespace_name l.namespace) in
    TurnSoFar (ResolvesDeclaration (held_names l.all_defs))
    (λ def. declared_as (type_name def.name) (entity_type (fragment_body N refer def.fragment)))
    (λ def. declared_as (type_name def.name) (entity_type (fragment_body InternalName resolved_reference def.fragment)))
    l.fn.self.defs.items l.defs.items (into_iter_items l.def-iterator)
    × (flat_map (entity_type_locs InternalName no_locs) l.defs.items ≡ flat_map (entity_type_locs N no_locs) l.yielded)
