use Rattle.cedar_places.proofs.PlaceLaws.{two_apart}
use Rattle.cedar_places.proofs.theorems.two_definitions_stand_apart.Goals as goal

pub returns : goal.returns
returns c = two_apart
