use Rattle.std.proofs.Common.{◌≡◌, ◌++◌, drop}
use Rattle.cedar_json.proofs.fields.other_member.Given as goal
use Rattle.cedar_json.specs.Fields.{keys_among, texts_of}
use Rattle.json.specs.Value.{members_view}

abbrev pub invariant-loop-index : goal.invariant-loop-index
invariant-loop-index l =
    keys_among (texts_of l.own ++ texts_of l.more) (members_view l.members.items)
    ≡ keys_among (texts_of l.own ++ texts_of l.more) (members_view (drop l.index l.members.items))
