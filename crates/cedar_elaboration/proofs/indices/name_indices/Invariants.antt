use Rattle.std.proofs.Common.{take}
use Rattle.cedar_elaboration.proofs.IndexLemmas.{NumberedSoFar}
use Rattle.cedar_elaboration.proofs.indices.name_indices.Given as goal
use Rattle.cedar_elaboration.specs.Words.{indexed_names, item_names, written_common}

abbrev pub invariant-loop-item_index : goal.invariant-loop-item_index
invariant-loop-item_index g l =
    NumberedSoFar (item_names (written_common g.row.N.Denot g.N.WrittenName.refer (take l.item_index l.declared))) (indexed_names l.indices)
