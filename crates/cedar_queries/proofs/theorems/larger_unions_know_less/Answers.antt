use Rattle.cedar_queries.proofs.KnownLemmas.{larger_knows_less}
use Rattle.cedar_queries.proofs.theorems.larger_unions_know_less.Goals as goal

pub returns : goal.returns
returns c = larger_knows_less
