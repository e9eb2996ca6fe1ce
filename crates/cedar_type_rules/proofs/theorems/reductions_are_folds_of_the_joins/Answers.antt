use Rattle.cedar_type_rules.proofs.ReduceLemmas.{reduced_formed, reduced_once, refused_first}
use Rattle.cedar_type_rules.proofs.theorems.reductions_are_folds_of_the_joins.Goals as goal

pub returns-clause-formed : goal.returns-clause-formed
returns-clause-formed c = reduced_formed

pub returns-clause-unique : goal.returns-clause-unique
returns-clause-unique c = reduced_once

pub returns-clause-refused : goal.returns-clause-refused
returns-clause-refused c = refused_first
