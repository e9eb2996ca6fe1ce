-- What holds of an answer, carried on.
use Rattle.std.proofs.Common.{Result, Ok, Err, IfOk, OnOk}

module _ {A E : Type 0} where
  -- what follows of each answer of which a fact holds
  pub ok_to : (P Q : A → Type 0) → ((x : A) → P x → Q x) → (answer : Result A E) → IfOk answer P → IfOk answer Q
  ok_to P Q to (Ok x) holds = to x holds
  ok_to P Q to (Err e) holds = tt

  -- what follows where there is an answer of which a fact holds
  pub ok_on : (P : A → Type 0) (Q : Type 0) → ((x : A) → P x → Q) → (answer : Result A E) → IfOk answer P → OnOk answer Q
  ok_on P Q to (Ok x) holds = to x holds
  ok_on P Q to (Err e) holds = tt

  -- what follows where there is an answer
  pub on_to : (P Q : Type 0) → (P → Q) → (answer : Result A E) → OnOk answer P → OnOk answer Q
  on_to P Q to (Ok x) holds = to holds
  on_to P Q to (Err e) holds = tt
