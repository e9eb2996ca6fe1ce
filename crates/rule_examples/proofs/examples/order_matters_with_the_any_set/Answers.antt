use Rattle.rule_examples.proofs.HelpExamples.{reduce-first, reduce-last}
use Rattle.rule_examples.proofs.examples.order_matters_with_the_any_set.Goals as goal

pub returns-clause-first : goal.returns-clause-first
returns-clause-first c = reduce-first

pub returns-clause-last : goal.returns-clause-last
returns-clause-last c = reduce-last
