use Rattle.std.proofs.Common.{◌≡◌, ◌++◌, map}
use Rattle.std.specs.Option.{option_map}
use Rattle.std.specs.Vec.Iter.{into_iter_items}
use Rattle.cedar_fragments.proofs.Items.{entity_item}
use Rattle.cedar_fragments.proofs.collecting.add_entity_types.Given as goal
use Rattle.cedar_fragments.specs.Words.{entity_type_declarations, declared_entities, name_of, written_entities}

abbrev pub invariant-loop-def : goal.invariant-loop-def
invariant-loop-def g l =
    let N = g.row.N.Denot in
    let refer = g.N.WrittenName.refer (option_map name_of l.namespace) in
    written_entities N g.N.WrittenName.refer l.entity_types.items ++ map (entity_item N refer) (into_iter_items l.def-iterator)
    ≡ written_entities N g.N.WrittenName.refer l.fn.entity_types.items ++ declared_entities (entity_type_declarations N refer l.fn.defs)
