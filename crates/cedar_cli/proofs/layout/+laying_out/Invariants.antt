use Rattle.std.proofs.Common.{◌≡◌, ℕ, ◌+◌, drop, length}
use Rattle.std.specs.List.{sum_by}
use Rattle.cedar_cli.proofs.Places.{index_of}
use Rattle.cedar_cli.proofs.Weights.{item_weight, place_weight}
use Rattle.cedar_cli.proofs.layout.+laying_out.Given as goal
use Rattle.json.specs.Token.{Token}
use Rattle.json.specs.Tree.{items_tokens, json_tokens, members_tokens}
use Rattle.json.specs.Value.{items_view, members_view, value_view}

abbrev pub decreases-write : goal.decreases-write
decreases-write l = length (json_tokens (value_view l.value.now))

abbrev pub decreases-write_items : goal.decreases-write_items
decreases-write_items l = length (items_tokens (items_view l.items.now.items))

abbrev pub decreases-write_members : goal.decreases-write_members
decreases-write_members l = length (members_tokens (members_view l.members.now.items))

abbrev pub invariant-write_items-loop-item : goal.invariant-write_items-loop-item
invariant-write_items-loop-item l =
    (weight : Token → ℕ) → sum_by weight l.pretty + sum_by (item_weight weight) (drop l.item-index l.item-items)
    ≡ sum_by weight l.initial.pretty + sum_by (item_weight weight) l.item-items

abbrev pub invariant-write_members-loop-place : goal.invariant-write_members-loop-place
invariant-write_members-loop-place l =
    (weight : Token → ℕ) → sum_by weight l.pretty + sum_by (place_weight index_of weight l.members.items) (drop l.place-index l.place-items)
    ≡ sum_by weight l.initial.pretty + sum_by (place_weight index_of weight l.members.items) l.place-items
