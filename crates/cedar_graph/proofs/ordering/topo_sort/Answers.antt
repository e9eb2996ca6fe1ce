use Rattle.cedar_graph.proofs.OrderProgress.{has_order, no_cycle}
use Rattle.cedar_graph.proofs.ordering.topo_sort.Goals as goal

-- where no number on a cycle was met there is none
pub returns-in-None : goal.returns-in-None
returns-in-None c =
    let ordered = has_order c.args.targets.now.items _ c.in-None.is c.in_ok-order.ensures in
    (ordered, no_cycle c.args.targets.now.items _ ordered)
