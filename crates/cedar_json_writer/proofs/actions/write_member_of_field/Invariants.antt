use Rattle.std.proofs.Common.{◌≡◌, ◌++◌, drop}
use Rattle.cedar_json_writer.proofs.WritingLemmas.{items_from}
use Rattle.cedar_json_writer.proofs.WrittenNames.{parent_item}
use Rattle.cedar_json_writer.proofs.actions.write_member_of_field.Given as goal
use Rattle.json.specs.Tree.{items_tokens}

abbrev pub invariant-loop-parent : goal.invariant-loop-parent
invariant-loop-parent l =
    l.initial.out ++ items_tokens (items_from parent_item l.parent-items)
    ≡ l.out ++ items_tokens (items_from parent_item (drop l.parent-index l.parent-items))
