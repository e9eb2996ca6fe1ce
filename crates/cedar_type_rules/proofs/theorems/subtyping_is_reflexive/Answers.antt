use Rattle.cedar_type_rules.proofs.SubtypeLaws.{Below-itself}
use Rattle.cedar_type_rules.proofs.theorems.subtyping_is_reflexive.Goals as goal

pub returns : goal.returns
returns c = Below-itself
