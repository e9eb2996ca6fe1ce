use Rattle.rule_examples.proofs.TypeExamples.{consistent-required}
use Rattle.rule_examples.proofs.examples.consistent_types.Goals as goal

pub returns-clause-required : goal.returns-clause-required
returns-clause-required c = consistent-required
