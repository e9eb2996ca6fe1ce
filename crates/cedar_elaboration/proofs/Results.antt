-- Facts of one answer, together.
use Rattle.std.proofs.Common.{Result, Ok, Err, IfOk, OnOk}

-- two facts of the value of an answer
pub IfOk-both : {X E : Type 0} (r : Result X E) (P Q : X → Type 0) → IfOk r P → IfOk r Q → IfOk r (λ x. P x × Q x)
IfOk-both (Ok x) P Q p q = (p, q)
IfOk-both (Err e) P Q p q = tt

-- two facts where there is a value
pub OnOk-both : {X E : Type 0} (r : Result X E) (P Q : Type 0) → OnOk r P → OnOk r Q → OnOk r (P × Q)
OnOk-both (Ok x) P Q p q = (p, q)
OnOk-both (Err e) P Q p q = tt
