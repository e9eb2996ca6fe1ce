-- What holds of an answer, of the answer as plain data.
use Rattle.std.proofs.Common.{Result, Ok, Err, IfOk, IfErr, OnOk}
use Rattle.std.specs.Result.{result_map_both}

module _ {T U E D : Type 0} (f : T → U) (g : E → D) where
  -- what holds of the value
  pub IfOk-mapped : (r : Result T E) (P : U → Type 0) → IfOk r (λ x. P (f x)) → IfOk (result_map_both f g r) P
  IfOk-mapped (Ok x) P holds = holds
  IfOk-mapped (Err e) P holds = tt

  -- what holds of the error
  pub IfErr-mapped : (r : Result T E) (P : D → Type 0) → IfErr r (λ e. P (g e)) → IfErr (result_map_both f g r) P
  IfErr-mapped (Ok x) P holds = tt
  IfErr-mapped (Err e) P holds = holds

  -- and the other way round
  pub IfErr-unmapped : (r : Result T E) (P : D → Type 0) → IfErr (result_map_both f g r) P → IfErr r (λ e. P (g e))
  IfErr-unmapped (Ok x) P holds = tt
  IfErr-unmapped (Err e) P holds = holds

  -- what holds where there is a value
  pub OnOk-mapped : (r : Result T E) (P : Type 0) → OnOk r P → OnOk (result_map_both f g r) P
  OnOk-mapped (Ok x) P holds = holds
  OnOk-mapped (Err e) P holds = tt
