use Rattle.std.proofs.Common.{rules}
use Rattle.cedar_json.proofs.fault.Fault.here.Goals as goal
use Rattle.cedar_json.specs.Words.{IsFaultAt}

pub returns-clause-place : goal.returns-clause-place
unfolding IsFaultAt
returns-clause-place c = search rules
