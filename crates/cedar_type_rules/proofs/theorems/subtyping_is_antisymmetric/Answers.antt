use Rattle.cedar_type_rules.proofs.AntisymmetryLaws.{Below-same}
use Rattle.cedar_type_rules.proofs.theorems.subtyping_is_antisymmetric.Goals as goal

pub returns : goal.returns
returns c = Below-same
