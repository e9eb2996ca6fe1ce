use Rattle.rule_examples.proofs.TypeExamples.{inclusion-included, inclusion-unlisted}
use Rattle.rule_examples.proofs.examples.inclusion_asks_for_names.Goals as goal

pub returns-clause-included : goal.returns-clause-included
returns-clause-included c = inclusion-included

pub returns-clause-unlisted : goal.returns-clause-unlisted
returns-clause-unlisted c = inclusion-unlisted
