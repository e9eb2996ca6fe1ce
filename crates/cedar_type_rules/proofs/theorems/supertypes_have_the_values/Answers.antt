use Rattle.cedar_type_rules.proofs.MemberLaws.{HasBy-above}
use Rattle.cedar_type_rules.proofs.theorems.supertypes_have_the_values.Goals as goal
use Rattle.cedar_type_rules.specs.Words.{Gives, MayGive}

pub returns-clause-has : goal.returns-clause-has
returns-clause-has c extensions = HasBy-above (Gives extensions)

pub returns-clause-may_have : goal.returns-clause-may_have
returns-clause-may_have c extensions = HasBy-above (MayGive extensions)
