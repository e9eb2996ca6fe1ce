use Rattle.std.proofs.Common.{◌≡◌, ◌++◌, drop}
use Rattle.cedar_json_writer.proofs.WritingLemmas.{items_from}
use Rattle.cedar_json_writer.proofs.WrittenNames.{name_item}
use Rattle.cedar_json_writer.proofs.fields.write_names_field.Given as goal
use Rattle.json.specs.Tree.{items_tokens}

abbrev pub invariant-loop-name : goal.invariant-loop-name
invariant-loop-name l =
    l.initial.out ++ items_tokens (items_from name_item l.name-items)
    ≡ l.out ++ items_tokens (items_from name_item (drop l.name-index l.name-items))
