use Rattle.std.proofs.Common.{◌≡◌, ◌+◌, ◌*◌, [], None, drop, length}
use Rattle.cedar_json.proofs.type_reading.+type_reading.Given as goal
use Rattle.cedar_json.specs.Words.{attributes_of, plain_members}
use Rattle.json.specs.Tree.{json_tokens, members_tokens}
use Rattle.json.specs.Value.{value_view, members_view}

abbrev pub decreases-read_type_of : goal.decreases-read_type_of
decreases-read_type_of l = 4 * length (json_tokens (value_view l.value.now)) + 2

abbrev pub decreases-read_type_by : goal.decreases-read_type_by
decreases-read_type_by l = 4 * length (json_tokens (value_view l.value.now)) + 1

abbrev pub decreases-read_set : goal.decreases-read_set
decreases-read_set l = 4 * length (json_tokens (value_view l.value.now))

abbrev pub decreases-read_record : goal.decreases-read_record
decreases-read_record l = 4 * length (json_tokens (value_view l.value.now))

abbrev pub decreases-read_attribute : goal.decreases-read_attribute
decreases-read_attribute l = 4 * length (json_tokens (value_view l.value.now)) + 3

abbrev pub decreases-read_attributes : goal.decreases-read_attributes
decreases-read_attributes l = 4 * length (members_tokens (members_view l.members.now.items))

abbrev pub invariant-read_attributes-loop-index : goal.invariant-read_attributes-loop-index
invariant-read_attributes-loop-index l =
    attributes_of (members_view l.members.items) []
    ≡ attributes_of (members_view (drop l.index l.members.items)) (plain_members None l.attributes.entries)
