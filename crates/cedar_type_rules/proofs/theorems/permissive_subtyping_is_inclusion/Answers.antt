use Rattle.cedar_type_rules.proofs.ValueInclusion.{inclusion, inclusion_and_names}
use Rattle.cedar_type_rules.proofs.theorems.permissive_subtyping_is_inclusion.Goals as goal

pub returns-clause-stated : goal.returns-clause-stated
returns-clause-stated c = inclusion

pub returns-clause-with_optional : goal.returns-clause-with_optional
returns-clause-with_optional c = inclusion_and_names
