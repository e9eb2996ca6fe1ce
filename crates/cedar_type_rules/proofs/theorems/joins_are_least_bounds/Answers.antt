use Rattle.cedar_type_rules.proofs.JoinAnswers.{strict_is_permissive}
use Rattle.cedar_type_rules.proofs.JoinLemmas.{join_given_exactly, join_unique, upper_is_join, join_below_clean, join_least_clean, join_commutes}
use Rattle.cedar_type_rules.proofs.theorems.joins_are_least_bounds.Goals as goal

pub returns-clause-given : goal.returns-clause-given
returns-clause-given c = join_given_exactly

pub returns-clause-unique : goal.returns-clause-unique
returns-clause-unique c = join_unique

pub returns-clause-upper : goal.returns-clause-upper
returns-clause-upper c = upper_is_join

pub returns-clause-below : goal.returns-clause-below
returns-clause-below c = join_below_clean

pub returns-clause-of_clean : goal.returns-clause-of_clean
returns-clause-of_clean c = join_least_clean

pub returns-clause-swapped : goal.returns-clause-swapped
returns-clause-swapped c = join_commutes

pub returns-clause-strict : goal.returns-clause-strict
returns-clause-strict c = strict_is_permissive
