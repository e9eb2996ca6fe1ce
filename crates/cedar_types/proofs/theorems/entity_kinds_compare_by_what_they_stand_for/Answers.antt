use Rattle.cedar_types.proofs.CompareLemmas.{unions_compare, kinds_compare}
use Rattle.cedar_types.proofs.theorems.entity_kinds_compare_by_what_they_stand_for.Goals as goal

pub returns-clause-unions : goal.returns-clause-unions
returns-clause-unions c = unions_compare

pub returns-clause-kinds : goal.returns-clause-kinds
returns-clause-kinds c = kinds_compare
