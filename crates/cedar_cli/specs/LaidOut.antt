use Rattle.std.specs.Prelude.{◌≡◌, ◌∷◌, ◌++◌, [], Some}
use Rattle.cedar_cli.specs.SameTokens.{SameTokens, Text}
use Rattle.json.specs.Json.{Json, document}
use Rattle.json.specs.Lex.{tokens}
use Rattle.json.specs.Tree.{json_tokens}

-- a text has the tokens of another one's document, each as often
pub record IsLayoutOf (text : Text) (layout : Text) : Type 0 where
  pub value : Json
  pub is_document : document text ≡ Some value
  pub has_its_tokens : SameTokens (tokens layout) (json_tokens value)

-- a text is the layout of another one's document, ended by a line end
pub record IsLayoutFile (text : Text) (file : Text) : Type 0 where
  pub layout : Text
  pub is_layout : IsLayoutOf text layout
  pub is_ended : file ≡ layout ++ 10 ∷ []
