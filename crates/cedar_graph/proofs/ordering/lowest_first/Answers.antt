use Rattle.cedar_graph.proofs.OrderProgress.{passes_cycles}
use Rattle.cedar_graph.proofs.ordering.lowest_first.Goals as goal

pub returns : goal.returns
returns c = passes_cycles c.args.targets.now.items _ c.in_ok-order.ensures
