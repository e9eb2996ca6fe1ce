-- What a function that reads ensures.
use Rattle.std.specs.Prelude.{◌≡◌, ◌≢◌, List, ℕ, Result, Ok, Err}
use Rattle.std.specs.Borrow.{Bor}
use Rattle.cedar_schema_tokens.specs.declared.fault.Stop.{Stop}
use Rattle.cedar_schema_tokens.specs.declared.fault.Stop.TheVariants.{Memory}
use Rattle.cedar_schema_tokens.specs.Lexical.{Outcome}

-- the result, seen by view, is the outcome, unless memory ran out
abbrev pub Gives : {A B : Type 0} → (A → B) → Result B Stop → Result A Stop → Type 0
Gives view outcome (Ok a) = outcome ≡ Ok (view a)
Gives view outcome (Err e) = e ≢ Memory → outcome ≡ Err e

-- the same of a value and the rest of a text
abbrev pub Reads : {A B : Type 0} → (A → B) → Outcome B → Result (A × Bor (List ℕ)) Stop → Type 0
Reads view outcome r = Gives (λ p. (view p.0, p.1.now)) outcome r

-- a character and the bytes behind it
abbrev pub char_and_rest : ℕ × Bor (List ℕ) → ℕ × List ℕ
char_and_rest p = (p.0, p.1.now)
