use Rattle.std.proofs.Common.{◌≡◌, ◌++◌, drop}
use Rattle.cedar_json_writer.proofs.WritingLemmas.{items_from}
use Rattle.cedar_json_writer.proofs.WrittenNames.{id_item}
use Rattle.cedar_json_writer.proofs.fields.write_more_ids.Given as goal
use Rattle.json.specs.Tree.{items_tokens}

abbrev pub invariant-loop-id : goal.invariant-loop-id
invariant-loop-id l =
    l.initial.out ++ items_tokens (items_from id_item l.id-items)
    ≡ l.out ++ items_tokens (items_from id_item (drop l.id-index l.id-items))
