use Rattle.std.proofs.Common.{◌≡◌, ◌+◌, ◌*◌, [], drop, length, option_map}
use Rattle.cedar_json.proofs.ValueLemmas.{before, shown}
use Rattle.cedar_json.proofs.value_reading.+value_reading.Given as goal
use Rattle.cedar_json.specs.Words.{pairs_of, tree_of, values_of}
use Rattle.json.specs.Tree.{items_tokens, json_tokens, members_tokens}
use Rattle.json.specs.Value.{items_view, members_view, value_view}

abbrev pub decreases-read_expr : goal.decreases-read_expr
decreases-read_expr l = 4 * length (json_tokens (value_view l.value.now))

abbrev pub decreases-read_set : goal.decreases-read_set
decreases-read_set l = 4 * length (items_tokens (items_view l.items.now.items))

abbrev pub decreases-read_object : goal.decreases-read_object
decreases-read_object l = 4 * length (members_tokens (members_view l.members.now.items)) + 2

abbrev pub decreases-read_call : goal.decreases-read_call
decreases-read_call l = 4 * length (json_tokens (value_view l.value.now)) + 1

abbrev pub decreases-read_record : goal.decreases-read_record
decreases-read_record l = 4 * length (members_tokens (members_view l.members.now.items)) + 1

abbrev pub invariant-read_set-loop-index : goal.invariant-read_set-loop-index
invariant-read_set-loop-index l =
    values_of (items_view l.items.items) ≡ option_map (before l.exprs.items) (values_of (items_view (drop l.index l.items.items)))

abbrev pub invariant-read_record-loop-index : goal.invariant-read_record-loop-index
invariant-read_record-loop-index l =
    pairs_of (members_view l.members.items) [] ≡ pairs_of (members_view (drop l.index l.members.items)) (shown tree_of l.pairs.entries)
