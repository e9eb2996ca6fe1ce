use Rattle.std.proofs.Common.{rules}
use Rattle.cedar_json.proofs.text_reading.out_of_shape.Goals as goal
use Rattle.cedar_json.specs.Words.{IsFaultAt}

-- the place has the steps of the refusal
pub returns-in-Ok-place_at : goal.returns-in-Ok-place_at
unfolding IsFaultAt
returns-in-Ok-place_at c = search rules
