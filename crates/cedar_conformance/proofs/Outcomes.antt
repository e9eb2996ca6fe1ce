-- What is said of refusals.
use Rattle.std.proofs.Common.{Err, Ok, Result}
use Rattle.std.specs.Result.{OnErr}

-- what holds always holds where something is refused
pub always : {T E P : Type 0} (r : Result T E) → P → OnErr r P
always (Ok value) holds = tt
always (Err error) holds = holds
