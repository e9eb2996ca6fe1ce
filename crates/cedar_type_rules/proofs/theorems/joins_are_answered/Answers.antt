use Rattle.cedar_type_rules.proofs.JoinAnswers.{joins_answered, reductions_answered}
use Rattle.cedar_type_rules.proofs.theorems.joins_are_answered.Goals as goal

pub returns-clause-of_two : goal.returns-clause-of_two
returns-clause-of_two c = joins_answered

pub returns-clause-pairwise : goal.returns-clause-pairwise
returns-clause-pairwise c = reductions_answered
