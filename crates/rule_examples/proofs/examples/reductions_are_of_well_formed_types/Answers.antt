use Rattle.rule_examples.proofs.HelpExamples.{reduce-refused, reduce-alone, reduce-twice}
use Rattle.rule_examples.proofs.examples.reductions_are_of_well_formed_types.Goals as goal

pub returns-clause-refused : goal.returns-clause-refused
returns-clause-refused c = reduce-refused

pub returns-clause-alone : goal.returns-clause-alone
returns-clause-alone c = reduce-alone

pub returns-clause-twice : goal.returns-clause-twice
returns-clause-twice c = reduce-twice
