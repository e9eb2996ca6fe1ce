use Rattle.std.proofs.Common.{map, take, option_map}
use Rattle.cedar_schema_text.proofs.SoFar.{PutSoFar}
use Rattle.cedar_schema_text.specs.Faults.{block_faults}
use Rattle.cedar_schema_text.specs.Here.{block_here}
use Rattle.cedar_schema_text.specs.Meaning.{block_meant, namespace_cmp}
use Rattle.cedar_schema_text.specs.Shown.{definition_shown, namespace_shown}
use Rattle.cedar_schema_text.proofs.meaning.namespaces.Given as goal

abbrev pub invariant-loop-block : goal.invariant-loop-block
invariant-loop-block l =
    PutSoFar block_faults block_meant namespace_cmp (option_map namespace_shown) definition_shown (map block_here (take l.block-index l.blocks)) l.all.entries
