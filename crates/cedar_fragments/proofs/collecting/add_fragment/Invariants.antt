use Rattle.std.specs.List.{flat_map}
use Rattle.std.specs.Vec.Iter.{into_iter_items}
use Rattle.cedar_fragments.proofs.CollectedTogether.{CollectsTogether}
use Rattle.cedar_fragments.proofs.collecting.add_fragment.Given as goal
use Rattle.cedar_fragments.specs.Words.{written_definition, written_fragment}

abbrev pub invariant-loop-definition : goal.invariant-loop-definition
invariant-loop-definition g l =
    let N = g.row.N.Denot in
    let refer = g.N.WrittenName.refer in
    CollectsTogether N refer l.fn.declared (written_fragment N refer l.fn.fragment) l.declared (flat_map (written_definition N refer) (into_iter_items l.definition-iterator))
