use Rattle.cedar_schema_laws.proofs.PlacedLemmas.{raw_bag_fits}
use Rattle.cedar_schema_laws.proofs.theorems.raw_references_fit_their_positions.Goals as goal

pub returns : goal.returns
returns c = raw_bag_fits
