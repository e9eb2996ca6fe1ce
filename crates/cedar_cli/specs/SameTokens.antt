use Rattle.std.specs.List.{sum_by}
use Rattle.std.specs.Prelude.{◌≡◌, ℕ, List}
use Rattle.json.specs.Token.{Token}

-- the bytes of a text
abbrev pub Text : Type 0
Text = List ℕ

-- the same tokens, each as often: whatever each of them weighs, both weigh the same
abbrev pub SameTokens : List Token → List Token → Type 0
SameTokens some others = (weight : Token → ℕ) → sum_by weight some ≡ sum_by weight others
