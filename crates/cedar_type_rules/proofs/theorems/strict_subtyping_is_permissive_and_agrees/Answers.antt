use Rattle.cedar_type_rules.proofs.AgreeLaws.{Below-strict-both}
use Rattle.cedar_type_rules.proofs.theorems.strict_subtyping_is_permissive_and_agrees.Goals as goal

pub returns : goal.returns
returns c = Below-strict-both
