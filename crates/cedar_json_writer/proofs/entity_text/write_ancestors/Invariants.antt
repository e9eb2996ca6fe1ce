use Rattle.std.proofs.Common.{◌≡◌, ◌++◌, map}
use Rattle.cedar_json_writer.proofs.WritingLemmas.{items_from}
use Rattle.cedar_json_writer.proofs.entity_text.write_ancestors.Given as goal
use Rattle.cedar_json_writer.specs.Words.{entity_ancestors, uid_document, uid_of}
use Rattle.json.specs.Tree.{items_tokens}

abbrev pub invariant-loop-uid : goal.invariant-loop-uid
invariant-loop-uid l =
    l.initial.out ++ items_tokens (items_from uid_document (entity_ancestors l.entity))
    ≡ l.out ++ items_tokens (items_from uid_document (map uid_of l.uid-iterator))
