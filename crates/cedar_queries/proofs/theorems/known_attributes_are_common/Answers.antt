use Rattle.cedar_queries.proofs.KnownLemmas.{known_is_common}
use Rattle.cedar_queries.proofs.theorems.known_attributes_are_common.Goals as goal

pub returns : goal.returns
returns c = known_is_common
