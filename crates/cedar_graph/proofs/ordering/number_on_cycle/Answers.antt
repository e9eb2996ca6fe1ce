use Rattle.std.proofs.Common.{IsTrue}
use Rattle.cedar_graph.proofs.Cycles.{back_by_targets, led_back}
use Rattle.cedar_graph.proofs.ordering.number_on_cycle.Goals as goal

-- where there is an order no chain leads back
pub returns-in-Order-clause-none : goal.returns-in-Order-clause-none
returns-in-Order-clause-none c = λ enforced number chain.
    (rw c.in-Order.is at c.in_ok-_order.ensures).1 number (led_back c.args.targets.now.items number chain)

-- and the number that is named is on a cycle
pub returns-in-Cycle-clause-found : goal.returns-in-Cycle-clause-found
returns-in-Cycle-clause-found c =
    let enforced : IsTrue c.args.enforce_dag = c.if-not-enforce_dag.false in
    (enforced, back_by_targets c.args.targets.now.items c.in-Cycle.number (rw c.in-Cycle.is at c.in_ok-_order.ensures))
