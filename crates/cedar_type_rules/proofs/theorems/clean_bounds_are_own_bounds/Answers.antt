use Rattle.cedar_type_rules.proofs.JoinLemmas.{clean_is_own, own_is_clean}
use Rattle.cedar_type_rules.proofs.theorems.clean_bounds_are_own_bounds.Goals as goal

pub returns-clause-own : goal.returns-clause-own
returns-clause-own c = clean_is_own

pub returns-clause-clean : goal.returns-clause-clean
returns-clause-clean c = own_is_clean
