use Rattle.cedar_written_out.proofs.CountLaws.{depth_greatest, depth_least}
use Rattle.cedar_written_out.proofs.theorems.depth_is_bounded.Goals as goal

pub returns-clause-least : goal.returns-clause-least
returns-clause-least c = depth_least

pub returns-clause-greatest : goal.returns-clause-greatest
returns-clause-greatest c = depth_greatest
