use Rattle.cedar_schema.proofs.Comparisons.{common_types-Decides, common_types-hash}
use Rattle.cedar_schema.proofs.theorems.located_common_types_compare_by_names.Goals as goal

pub returns-clause-equality : goal.returns-clause-equality
returns-clause-equality c = common_types-Decides

pub returns-clause-hash : goal.returns-clause-hash
returns-clause-hash c = common_types-hash
