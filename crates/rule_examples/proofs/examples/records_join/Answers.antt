use Rattle.rule_examples.proofs.JoinExamples.{records_join-permissive, records_join-strict, records_join-dropped}
use Rattle.rule_examples.proofs.examples.records_join.Goals as goal

pub returns-clause-permissive : goal.returns-clause-permissive
returns-clause-permissive c = records_join-permissive

pub returns-clause-strict : goal.returns-clause-strict
returns-clause-strict c = records_join-strict

pub returns-clause-dropped : goal.returns-clause-dropped
returns-clause-dropped c = records_join-dropped
