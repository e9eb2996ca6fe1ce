use Rattle.cedar_places.proofs.MarkLaws.{marks_mentioned}
use Rattle.cedar_places.proofs.theorems.marks_are_mentioned.Goals as goal

pub returns : goal.returns
returns c = marks_mentioned
