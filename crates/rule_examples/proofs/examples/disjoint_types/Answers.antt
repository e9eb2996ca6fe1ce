use Rattle.rule_examples.proofs.TypeExamples.{disjoint-common}
use Rattle.rule_examples.proofs.examples.disjoint_types.Goals as goal

pub returns-clause-common : goal.returns-clause-common
returns-clause-common c = disjoint-common
