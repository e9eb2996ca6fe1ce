-- Errors that `?` passes on.
use Rattle.std.proofs.Common.{◌≡◌, Result, IfErr}
use Rattle.std.proofs.lemmas.Result.{err_from_is_err_and}
use Rattle.std.specs.Result.{IsErrAnd}

-- what holds of the error that `?` passes on holds of that of the result
pub exit_holds : {T E : Type 0} (P : E → Type 0) (result : Result T E) (error : E) → IsErrAnd result (λ it. it ≡ error) → P error
    → IfErr result P
exit_holds P result error passed holds = let exit = err_from_is_err_and result passed in rw (exit.1, exit.2) holds
