use Rattle.std.proofs.Common.{◌≡◌, map, take}
use Rattle.cedar_compare.proofs.requests.copied_steps.Given as goal
use Rattle.cedar_counterexample.specs.Steps.{step_of}

abbrev pub invariant-loop-step : goal.invariant-loop-step
invariant-loop-step l = map step_of l.copy.items ≡ map step_of (take l.step-index l.step-items)
