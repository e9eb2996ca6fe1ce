use Rattle.std.proofs.Common.{◌≡◌, ◌++◌, map}
use Rattle.std.specs.Option.{option_map}
use Rattle.std.specs.Vec.Iter.{into_iter_items}
use Rattle.cedar_fragments.proofs.Items.{action_item}
use Rattle.cedar_fragments.proofs.collecting.add_actions.Given as goal
use Rattle.cedar_fragments.specs.Words.{action_fragment_declarations, declared_actions, name_of, written_actions}

abbrev pub invariant-loop-def : goal.invariant-loop-def
invariant-loop-def g l =
    let N = g.row.N.Denot in
    let refer = g.N.WrittenName.refer (option_map name_of l.namespace) in
    written_actions N g.N.WrittenName.refer l.actions.items ++ map (action_item N refer) (into_iter_items l.def-iterator)
    ≡ written_actions N g.N.WrittenName.refer l.fn.actions.items ++ declared_actions (action_fragment_declarations N refer N refer l.fn.defs)
