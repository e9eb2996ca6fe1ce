use Rattle.std.proofs.Common.{take}
use Rattle.cedar_elaboration.proofs.ElaborationLemmas.{ElaboratedInOrder}
use Rattle.cedar_elaboration.proofs.common.elaborate_in_order.Given as goal
use Rattle.cedar_elaboration.specs.Words.{NamesItems, elaborated_types, extension_types, held_names, written_common}

abbrev pub invariant-loop-item_index : goal.invariant-loop-item_index
invariant-loop-item_index g l =
    let items = written_common g.row.N.Denot g.N.WrittenName.refer l.declared in
    let names = held_names l.defs in
    NamesItems names items → ElaboratedInOrder items names (extension_types l.extensions) (take l.item_index-index l.order) (elaborated_types l.common)
