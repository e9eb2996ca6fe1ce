use Rattle.cedar_type_rules.proofs.ReduceLemmas.{reduce_empty, reduce_least_clean, reduce_any_order}
use Rattle.cedar_type_rules.proofs.theorems.reductions_are_least_bounds.Goals as goal

pub returns-clause-nothing : goal.returns-clause-nothing
returns-clause-nothing c = reduce_empty

pub returns-clause-of_clean : goal.returns-clause-of_clean
returns-clause-of_clean c = reduce_least_clean

pub returns-clause-any_order : goal.returns-clause-any_order
returns-clause-any_order c = reduce_any_order
