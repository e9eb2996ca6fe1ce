use Rattle.std.proofs.Common.{drop}
use Rattle.cedar_type_rules.proofs.FoldsOfJoins.{JoinedSoFar}
use Rattle.cedar_type_rules.proofs.join_order.reduce.Given as goal

abbrev pub invariant-loop-item : goal.invariant-loop-item
invariant-loop-item g l = JoinedSoFar (g.T.JoinOrder.join l.mode) l.fn.start l.items (drop l.item-index l.items) l.join
