-- What a function that reads ensures.
use Rattle.std.specs.Prelude.{◌≡◌, ◌≢◌, List, Result, Ok, Err}
use Rattle.cedar_schema_grammar.specs.declared.fault.Stop.{Stop}
use Rattle.cedar_schema_grammar.specs.declared.fault.Stop.TheVariants.{Memory}
use Rattle.cedar_schema_tokens.specs.Token.{Token}
use Rattle.cedar_schema_grammar.specs.Reading.{Outcome}

-- What a function returned, seen by view, is the outcome of reading, unless memory ran out.
abbrev pub Reads : {A B : Type 0} → (A → B) → Outcome B → Result A Stop → List Token → Type 0
Reads view outcome (Ok a) new = outcome ≡ Ok (view a, new)
Reads view outcome (Err e) new = e ≢ Memory → outcome ≡ Err e
