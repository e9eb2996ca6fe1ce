use Rattle.std.proofs.Common.{drop}
use Rattle.cedar_json.proofs.repeated_keys.+repeated_keys.Given as goal
use Rattle.json.specs.Strict.{ItemsHaveUniqueKeys, MembersHaveUniqueKeys}
use Rattle.json.specs.Value.{items_view, members_view}

abbrev pub invariant-check_items-loop-index : goal.invariant-check_items-loop-index
invariant-check_items-loop-index l =
    ItemsHaveUniqueKeys (items_view (drop l.index l.items.items)) → ItemsHaveUniqueKeys (items_view l.items.items)

abbrev pub invariant-check_members-loop-index : goal.invariant-check_members-loop-index
invariant-check_members-loop-index l =
    MembersHaveUniqueKeys (members_view (drop l.index l.members.items)) → MembersHaveUniqueKeys (members_view l.members.items)
