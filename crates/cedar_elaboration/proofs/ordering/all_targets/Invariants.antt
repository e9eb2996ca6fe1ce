use Rattle.std.proofs.Common.{take}
use Rattle.cedar_elaboration.proofs.OrderLemmas.{AreTargets}
use Rattle.cedar_elaboration.proofs.ordering.all_targets.Given as goal
use Rattle.cedar_elaboration.specs.Words.{held_names, indexed_names, written_common}

abbrev pub invariant-loop-item : goal.invariant-loop-item
invariant-loop-item g l =
    AreTargets (held_names l.defs) (indexed_names l.indices)
    (written_common g.row.N.Denot g.N.WrittenName.refer (take l.item-index l.declared)) l.targets.items
