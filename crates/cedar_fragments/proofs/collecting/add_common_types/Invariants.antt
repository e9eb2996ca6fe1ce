use Rattle.std.proofs.Common.{◌≡◌, ◌++◌, map}
use Rattle.std.specs.Option.{option_map}
use Rattle.std.specs.Vec.Iter.{into_iter_items}
use Rattle.cedar_fragments.proofs.Items.{common_item}
use Rattle.cedar_fragments.proofs.collecting.add_common_types.Given as goal
use Rattle.cedar_fragments.specs.Words.{common_type_declarations, declared_common, name_of, written_common}

abbrev pub invariant-loop-def : goal.invariant-loop-def
invariant-loop-def g l =
    let N = g.row.N.Denot in
    let refer = g.N.WrittenName.refer (option_map name_of l.namespace) in
    written_common N g.N.WrittenName.refer l.common_types.items ++ map (common_item N refer) (into_iter_items l.def-iterator)
    ≡ written_common N g.N.WrittenName.refer l.fn.common_types.items ++ declared_common (common_type_declarations N refer l.fn.defs)
