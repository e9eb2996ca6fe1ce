use Rattle.rule_examples.proofs.CallLemmas.{Gives-text}
use Rattle.rule_examples.proofs.subtyping_examples.known_calls_by_example.Goals as goal

pub returns-clause-none : goal.returns-clause-none
returns-clause-none c extensions ip ipaddr takes = (takes.0, takes.1, takes.2, tt)

pub returns-clause-first : goal.returns-clause-first
returns-clause-first c extensions ip ipaddr word rest takes = Gives-text extensions ip ipaddr word rest takes
