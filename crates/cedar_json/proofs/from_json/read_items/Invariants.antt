use Rattle.std.proofs.Common.{◌≡◌, ◌++◌, drop, map, option_map}
use Rattle.cedar_json.proofs.from_json.read_items.Given as goal
use Rattle.cedar_json.specs.Words.{all_of}
use Rattle.json.specs.Value.{items_view}

abbrev pub invariant-loop-index : goal.invariant-loop-index
invariant-loop-index g l =
    let is = g.T.Described in
    all_of is.describes (items_view l.items.items)
    ≡ option_map (λ others. map is.shown l.all.items ++ others) (all_of is.describes (items_view (drop l.index l.items.items)))
