use Rattle.cedar_type_rules.proofs.CleanLemmas.{clean_exactly}
use Rattle.cedar_type_rules.proofs.theorems.clean_types_are_without_the_any_set.Goals as goal

pub returns : goal.returns
returns c = clean_exactly
