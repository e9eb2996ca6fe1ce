use Rattle.std.proofs.Common.{◌+◌, length}
use Rattle.cedar_graph.proofs.OrderProgress.{Progress, fresh_cost}
use Rattle.cedar_graph.proofs.ordering.walk_through.Given as goal

abbrev pub invariant-loop-step : goal.invariant-loop-step
invariant-loop-step l = Progress l.targets.items l.marks.items l.steps.items l.order.items l.on_cycle

abbrev pub decreases-loop-step : goal.decreases-loop-step
decreases-loop-step l = length l.steps.items + fresh_cost l.marks.items l.targets.items
