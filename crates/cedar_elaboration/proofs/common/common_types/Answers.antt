use Rattle.std.proofs.Common.{Result, Ok, Err, OnOk}
use Rattle.cedar_elaboration.proofs.ElaborationLemmas.{names_kept, elaborated_each}
use Rattle.cedar_elaboration.proofs.common.common_types.Goals as goal
use Rattle.cedar_elaboration.specs.Words.{held_names, written_common}

pub returns-clause-names : goal.returns-clause-names
returns-clause-names g c =
    names_kept (written_common g.row.N.Denot g.N.WrittenName.refer c.args.declared.now) (held_names c.args.defs.now)
    c.elaborate_in_order.result c.elaborate_in_order.ensures.holds c.elaborate_in_order.ensures.each

pub returns-clause-elaborates : goal.returns-clause-elaborates
returns-clause-elaborates g c =
    elaborated_each (written_common g.row.N.Denot g.N.WrittenName.refer c.args.declared.now) (held_names c.args.defs.now)
    c.elaborate_in_order.result c.in_ok-order.ensures.once c.elaborate_in_order.ensures.holds c.elaborate_in_order.ensures.each

-- an order was found, so no common type is on a cycle
pub returns-clause-no_cycle : goal.returns-clause-no_cycle
returns-clause-no_cycle g c = answered c.elaborate_in_order.result c.in_ok-order.ensures.no_cycle where
  answered : {X E : Type 0} {P : Type 0} (answer : Result X E) → P → OnOk answer P
  answered (Ok x) holds = holds
  answered (Err e) holds = tt
