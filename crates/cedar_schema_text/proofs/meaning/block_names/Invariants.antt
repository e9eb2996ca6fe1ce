use Rattle.std.proofs.Common.{◌≡◌, map, take}
use Rattle.cedar_schema_grammar.specs.Plain.{name_of}
use Rattle.cedar_schema_text.specs.Faults.{block_name}
use Rattle.cedar_schema_text.specs.Here.{block_here}
use Rattle.cedar_schema_text.proofs.meaning.block_names.Given as goal

abbrev pub invariant-loop-block : goal.invariant-loop-block
invariant-loop-block l =
    map name_of l.all.items ≡ map block_name (map block_here (take l.block-index l.blocks))
