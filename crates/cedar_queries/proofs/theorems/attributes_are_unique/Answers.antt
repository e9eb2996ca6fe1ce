use Rattle.cedar_queries.proofs.KnownLemmas.{attributes_once}
use Rattle.cedar_queries.proofs.theorems.attributes_are_unique.Goals as goal

pub returns : goal.returns
returns c = attributes_once
