-- What holds of results.
use Rattle.std.proofs.Common.{Result, Ok, Err, IfErr}

-- what holds of a refusal, so does what follows from it
pub on_err : {A E : Type 0} {P Q : E → Type 0} (r : Result A E) → IfErr r P → ((error : E) → P error → Q error) → IfErr r Q
on_err (Ok x) holds to = tt
on_err (Err e) holds to = to e holds
