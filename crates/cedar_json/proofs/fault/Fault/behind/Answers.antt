use Rattle.std.proofs.Common.{arith}
use Rattle.std.proofs.lemmas.Grind.{common_steps}
use Rattle.cedar_json.proofs.fault.Fault.behind.Goals as goal
use Rattle.cedar_json.specs.Words.{IsFaultAt}

pub returns-in-Ok-clause-place : goal.returns-in-Ok-clause-place
unfolding IsFaultAt
returns-in-Ok-clause-place c = grind (arith, common_steps)
