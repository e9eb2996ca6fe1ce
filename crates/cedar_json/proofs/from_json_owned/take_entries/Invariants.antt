use Rattle.std.proofs.Common.{◌≡◌, [], drop, map}
use Rattle.std.specs.Iterator.Adapters.{enumerate_count, enumerate_source}
use Rattle.std.specs.Vec.Iter.{into_iter_items}
use Rattle.cedar_json.proofs.from_json_owned.take_entries.Given as goal
use Rattle.cedar_json.specs.Words.{entries_of}
use Rattle.json.specs.Value.{members_view}

abbrev pub invariant-loop-index : goal.invariant-loop-index
invariant-loop-index g l =
    let is = g.K.Key in
    let held = g.T.Described in
    let all = l.fn.members.items in
    let left = drop (enumerate_count l.index-iterator) all in
    (entries_of is.order is.key_of held.describes (members_view all) []
    ≡ entries_of is.order is.key_of held.describes (members_view left)
    (map (λ entry. (is.shown_key entry.0, held.shown entry.1)) l.all))
    × (left ≡ into_iter_items (enumerate_source l.index-iterator))
