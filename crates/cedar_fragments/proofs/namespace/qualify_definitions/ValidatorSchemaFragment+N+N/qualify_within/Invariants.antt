use Rattle.std.proofs.Common.{◌≡◌, map}
use Rattle.std.specs.List.{flat_map}
use Rattle.std.specs.Vec.Iter.{into_iter_items}
use Rattle.cedar_fragments.proofs.ResolvedBags.{ResolvesUnreservedBag}
use Rattle.cedar_fragments.proofs.namespace.qualify_definitions.ValidatorSchemaFragment+N+N.qualify_within.Given as goal
use Rattle.cedar_fragments.specs.Words.{EntityType, InternalName, definition_common_names, definition_locs, held_names, located_namespace, no_locs, resolved_definition, written_definition}
use Rattle.cedar_name_resolution.proofs.Pairwise.{TurnSoFar}

abbrev pub invariant-loop-definition : goal.invariant-loop-definition
invariant-loop-definition g l =
    let N = g.row.N.Denot in
    TurnSoFar (ResolvesUnreservedBag (held_names l.all_defs)) (written_definition N g.N.WrittenName.refer) resolved_definition
    l.fn.self.definitions.items l.definitions.items (into_iter_items l.definition-iterator)
    × (map (located_namespace InternalName EntityType) l.definitions.items ≡ map (located_namespace N N) l.yielded)
    × (map (definition_locs InternalName no_locs EntityType no_locs) l.definitions.items
    ≡ map (definition_locs N no_locs N no_locs) l.yielded)
    × (flat_map (definition_common_names InternalName EntityType) l.definitions.items
    ≡ flat_map (definition_common_names N N) l.yielded)
