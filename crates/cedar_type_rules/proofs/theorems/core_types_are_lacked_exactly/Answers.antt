use Rattle.cedar_type_rules.proofs.CoreLemmas.{core_lacked}
use Rattle.cedar_type_rules.proofs.theorems.core_types_are_lacked_exactly.Goals as goal

pub returns : goal.returns
returns c = core_lacked
