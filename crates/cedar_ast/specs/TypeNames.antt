use Rattle.std.specs.Prelude.{◌≢◌, List, [], ◌∷◌, codes, All, AllPairs, Contains}
use Rattle.cedar_ast.specs.PlainName.{PlainName, IsUnqualified}
use Rattle.cedar_ast.specs.Text.{Text}

-- the names of the types that need no declaration
abbrev pub primitive_words : List Text
primitive_words = codes "Bool" ∷ codes "Long" ∷ codes "String" ∷ []

-- the names can be those of extension types: unqualified, distinct, and none of them that of a core
-- type
pub record TypeNamesFit (names : List PlainName) : Type 0 where
  pub unqualified : All IsUnqualified names
  pub distinct : AllPairs (λ a b. a ≢ b) names
  pub free : All (λ name. ¬ Contains primitive_words name.base) names
