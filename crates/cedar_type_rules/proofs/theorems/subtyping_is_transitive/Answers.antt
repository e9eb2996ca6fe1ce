use Rattle.cedar_type_rules.proofs.SubtypeLaws.{Below-trans}
use Rattle.cedar_type_rules.proofs.theorems.subtyping_is_transitive.Goals as goal

pub returns : goal.returns
returns c = Below-trans
