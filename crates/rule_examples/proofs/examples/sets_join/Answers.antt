use Rattle.rule_examples.proofs.JoinExamples.{sets_join-apart, sets_join-with_any}
use Rattle.rule_examples.proofs.examples.sets_join.Goals as goal

pub returns-clause-apart : goal.returns-clause-apart
returns-clause-apart c = sets_join-apart

pub returns-clause-with_any : goal.returns-clause-with_any
returns-clause-with_any c = sets_join-with_any
