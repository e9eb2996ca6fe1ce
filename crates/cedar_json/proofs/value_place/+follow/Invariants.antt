use Rattle.std.proofs.Common.{length}
use Rattle.cedar_json.proofs.value_place.+follow.Given as goal

abbrev pub decreases-follow : goal.decreases-follow
decreases-follow l = length l.steps.now
