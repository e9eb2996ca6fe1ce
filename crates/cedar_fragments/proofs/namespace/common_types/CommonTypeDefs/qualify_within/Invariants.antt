use Rattle.std.proofs.Common.{◌≡◌}
use Rattle.std.specs.List.{flat_map}
use Rattle.std.specs.Vec.Iter.{into_iter_items}
use Rattle.cedar_fragments.proofs.namespace.common_types.CommonTypeDefs.qualify_within.Given as goal
use Rattle.cedar_fragments.specs.Words.{InternalName, ResolvesDeclaration, common_type, common_type_locs, declared_as, held_names, located_common_names, name_of, namespace_name, no_locs, resolved_expr, type_expr}
use Rattle.cedar_name_resolution.proofs.Pairwise.{TurnSoFar}

abbrev pub invariant-loop-def : goal.invariant-loop-def
invariant-loop-def g l =
    let N = g.row.N.Denot in
    let refer = g.N.WrittenName.refer (namespace_name l.namespace) in
    TurnSoFar (ResolvesDeclaration (held_names l.all_defs)) (λ def. declared_as (name_of def.name) (common_type (type_expr N refer def.ty)))
    (λ def. declared_as (name_of def.name) (common_type (resolved_expr def.ty))) l.fn.self.defs.items l.defs.items
    (into_iter_items l.def-iterator)
    × (flat_map (common_type_locs InternalName no_locs) l.defs.items ≡ flat_map (common_type_locs N no_locs) l.yielded)
    × (located_common_names InternalName l.defs.items ≡ located_common_names N l.yielded)
