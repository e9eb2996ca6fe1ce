use Rattle.std.proofs.Common.{◌≡◌, drop}
use Rattle.cedar_json.proofs.annotations.check_annotation_members.Given as goal
use Rattle.cedar_json.specs.Fields.{are_annotations}
use Rattle.json.specs.Value.{members_view}

abbrev pub invariant-loop-index : goal.invariant-loop-index
invariant-loop-index l =
    are_annotations (members_view l.members.items) ≡ are_annotations (members_view (drop l.index l.members.items))
