use Rattle.std.proofs.Common.{◌≡◌, false, drop, take, option_map}
use Rattle.std.specs.Str.{bytes_eq}
use Rattle.cedar_json.proofs.from_json_owned.take_member.Given as goal
use Rattle.cedar_json.specs.Words.{Text}
use Rattle.json.specs.Find.{get_member}
use Rattle.json.specs.Value.{members_view, value_view}

abbrev pub invariant-loop-member : goal.invariant-loop-member
invariant-loop-member l = record {
  held : option_map value_view l.held ≡ get_member l.name (members_view (take l.member-index l.fn.members.items));
  others : (other : Text) → bytes_eq l.name other ≡ false
      → get_member other (members_view l.member-items) ≡ get_member other (members_view l.fn.members.items);
  left : drop l.member-index l.member-items ≡ drop l.member-index l.fn.members.items;
}
