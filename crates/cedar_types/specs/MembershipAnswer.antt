use Rattle.std.specs.Prelude.{◌≡◌, ◌↔◌, Bool, true, false, Result, Ok, IfErr}
use Rattle.cedar_ast.specs.Words.{PlainName, plain_name}
use Rattle.cedar_ast.specs.declared.extension.ExtensionFunctionLookupError.{ExtensionFunctionLookupError}

-- what a test of membership answers
abbrev pub Answer : Type 0
Answer = Result Bool ExtensionFunctionLookupError

-- an answer is right: yes exactly where the value has the type, no exactly where it can't have it
-- whatever the unknown functions give, and else the fault of a function that it meets
pub record IsMembership (answer : Answer) (Holds MayHold : Type 0)
    (Meeting : PlainName → Type 0) : Type 0 where
  pub yes : (answer ≡ Ok true) ↔ Holds
  pub no : (answer ≡ Ok false) ↔ ¬ MayHold
  pub fault : IfErr answer (λ error. Meeting (plain_name error.name.now))
