use Rattle.std.proofs.Common.{ℕ, ◌<◌, Contains}
use Rattle.cedar_graph.proofs.ordering.enter_below.Given as goal
use Rattle.cedar_graph.specs.declared.ordering.Step.TheVariants.{Enter, Leave}

abbrev pub invariant-loop-number : goal.invariant-loop-number
invariant-loop-number l = record {
  each : (number : ℕ) → number < l.number → Contains l.steps.items (Enter number);
  only : (number : ℕ) → ¬ Contains l.steps.items (Leave number);
}
