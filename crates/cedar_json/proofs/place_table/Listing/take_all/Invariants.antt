use Rattle.std.proofs.Common.{length}
use Rattle.cedar_json.proofs.place_table.Listing.take_all.Given as goal

abbrev pub decreases-loop-token : goal.decreases-loop-token
decreases-loop-token l = length l.reader
