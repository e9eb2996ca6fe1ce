use Rattle.cedar_places.proofs.PlaceLaws.{first_places}
use Rattle.cedar_places.proofs.theorems.first_places_stand_first.Goals as goal

pub returns : goal.returns
returns c = first_places
