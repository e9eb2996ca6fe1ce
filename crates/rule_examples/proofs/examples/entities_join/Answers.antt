use Rattle.rule_examples.proofs.JoinExamples.{entities_join-permissive, entities_join-strict}
use Rattle.rule_examples.proofs.examples.entities_join.Goals as goal

pub returns-clause-permissive : goal.returns-clause-permissive
returns-clause-permissive c = entities_join-permissive

pub returns-clause-strict : goal.returns-clause-strict
returns-clause-strict c = entities_join-strict
