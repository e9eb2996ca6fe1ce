-- Tokens as plain data, and the one that a token of the code stands for.
use Rattle.std.specs.Prelude.{ℕ, List, string_bytes}
use Rattle.cedar_ast.specs.declared.loc.Loc.{Loc}
use Rattle.cedar_schema_tokens.specs.declared.token.Symbol.{Symbol}
use Rattle.cedar_schema_tokens.specs.declared.token.Lexeme as code
use Rattle.cedar_schema_tokens.specs.declared.token.Lexeme.TheVariants as variants
use Rattle.cedar_schema_tokens.specs.declared.token.Token as code_token

-- What a token is: the bytes of an id, those of a quoted text with its escapes resolved, or a
-- symbol.
pub data Lexeme : Type 0 where
  ident : List ℕ → Lexeme
  text : List ℕ → Lexeme
  symbol : Symbol → Lexeme

-- A token, with its place.
pub record Token : Type 0 where
  pub lexeme : Lexeme
  pub loc : Loc

-- the plain data of a token of the code
abbrev pub lexeme_of : code.Lexeme → Lexeme
lexeme_of (variants.Id s) = ident s.now
lexeme_of (variants.Text s) = text (string_bytes s)
lexeme_of (variants.Symbol m) = symbol m

abbrev pub token_of : code_token.Token → Token
token_of t = record { lexeme = lexeme_of t.lexeme; loc = t.loc }
