-- Tokens and comments of a text, as they are spelled there (Cedar reference, "Schema format").
use Rattle.std.specs.Prelude.{◌≡◌, ◌≢◌, ℕ, zero, suc, ◌==◌, Bool, true, false, ◌&&◌, if◌then◌else◌, ◌⊎◌, List, [], ◌∷◌, ◌++◌, length, drop, slice_index, Result, Ok, Err, ⊤}
use Rattle.std.specs.List.{list_all, prefix_len}
use Rattle.cedar_schema_tokens.specs.Lexical.{blank_len, first, is_line, is_word, lexeme_at}
use Rattle.cedar_schema_tokens.specs.Token.{Lexeme, Token, ident, symbol, text}
use Rattle.cedar_schema_tokens.specs.Written.{ArePieces, AreTokens, IsWritten, Piece, is_id, spelling}
use Rattle.std.specs.Borrow.{Bor}
use Rattle.cedar_schema_tokens.specs.declared.fault.Stop.{Stop}
use Rattle.cedar_schema_tokens.specs.declared.fault.Stop.TheVariants.{Memory}
use Rattle.cedar_schema_tokens.specs.declared.spelled.Spelled as code
use Rattle.cedar_schema_tokens.specs.declared.spelled.SpelledKind.{SpelledKind}
use Rattle.cedar_schema_tokens.specs.declared.spelled.SpelledKind.TheVariants as kind
use Rattle.cedar_schema_tokens.specs.declared.token.Symbol.TheVariants as sym

-- a token or a comment: what it is, and the bytes that spell it
pub record Spelled : Type 0 where
  pub kind : SpelledKind
  pub text : List ℕ

-- the plain data of one of the code
abbrev pub spelled_of : code.Spelled → Spelled
spelled_of it = record { kind = it.kind; text = it.text.now }

-- what a token is, but for which id or text
abbrev pub kind_of : Lexeme → SpelledKind
kind_of (ident id) = kind.Id
kind_of (text bytes) = kind.Text
kind_of (symbol it) = kind.Symbol it

-- a comment begins the bytes
abbrev pub begins_comment : List ℕ → Bool
begins_comment all = first all == 47 && slice_index all 1 == 47

-- The number bounds the turns; the count of the bytes is enough.
unfoldable pub blanks_from : ℕ → List ℕ → List ℕ
blanks_from zero all = all
blanks_from (suc n) all =
    if blank_len all == 0 then all else blanks_from n (drop (blank_len all) all)

-- without the white space at the front
abbrev pub after_blanks : List ℕ → List ℕ
after_blanks all = blanks_from (length all) all

-- The bytes spell such a thing: a comment from its slashes to the end of its line, an id, a quoted
-- text with its quotes, or a symbol.
abbrev pub IsSpelling : SpelledKind → List ℕ → Type 0
IsSpelling kind.Comment bytes =
    (more : List ℕ) × (bytes ≡ 47 ∷ 47 ∷ more) × (list_all is_line bytes ≡ true)
IsSpelling kind.Id bytes = is_id bytes ≡ true
IsSpelling kind.Text bytes =
    (ps : List Piece) × (meant : List ℕ) × (inner : List ℕ) × (bytes ≡ 34 ∷ inner)
    × ArePieces ps meant inner (34 ∷ [])
IsSpelling (kind.Symbol it) bytes = bytes ≡ spelling it

-- such a thing ends where these bytes follow: they don't go on with it
abbrev pub Ends : SpelledKind → List ℕ → Type 0
Ends kind.Comment rest = (rest ≡ []) ⊎ (is_line (first rest) ≡ false)
Ends kind.Id rest = is_word (first rest) ≡ false
Ends kind.Text rest = ⊤
Ends (kind.Symbol it) rest = it ≡ sym.Colon → first rest ≢ 58

-- the tokens and the comments of a text, all of it, each behind white space
abbrev pub AreSpelled : List Spelled → List ℕ → Type 0
AreSpelled [] all = after_blanks all ≡ []
AreSpelled (it ∷ more) all =
    (rest : List ℕ) × (after_blanks all ≡ it.text ++ rest) × IsSpelling it.kind it.text
    × Ends it.kind rest × AreSpelled more rest

-- the bytes behind the first line
abbrev pub after_line : List ℕ → List ℕ
after_line all = drop (prefix_len is_line all) all

-- the bytes begin with such a thing, which ends where the rest begins; it is a comment where one
-- begins, and else the token there
abbrev pub IsFront : List ℕ → SpelledKind → List ℕ → Type 0
IsFront all it rest =
    (bytes : List ℕ) × (all ≡ bytes ++ rest) × IsSpelling it bytes × Ends it rest
    × (((begins_comment all ≡ true) × (it ≡ kind.Comment) × (rest ≡ after_line all))
    ⊎ ((begins_comment all ≡ false) × (lexeme : Lexeme) × (it ≡ kind_of lexeme)
    × (lexeme_at all ≡ Ok (lexeme, rest))))

-- what stands at the front of some bytes, or that no token and no comment does, unless memory ran
-- out
abbrev pub GivesFront : List ℕ → Result (SpelledKind × Bor (List ℕ)) Stop → Type 0
GivesFront all (Ok found) = IsFront all found.0 found.1.now
GivesFront all (Err stop) =
    stop ≢ Memory → (begins_comment all ≡ false) × (lexeme_at all ≡ Err stop)

-- the bytes are no tokens, whatever the number of their text
abbrev pub HasNone : List ℕ → Type 0
HasNone all = (source : ℕ) (ts : List Token) → AreTokens source all ts → ⊥

-- a token is spelled so, by these bytes alone
abbrev pub IsLexemeOf : Spelled → Lexeme → Type 0
IsLexemeOf it lexeme = (it.kind ≡ kind_of lexeme) × IsWritten lexeme it.text []

-- the tokens among tokens and comments are just these, in order
abbrev pub AreLexemesOf : List Spelled → List Token → Type 0
AreLexemesOf [] ts = ts ≡ []
AreLexemesOf (it ∷ more) ts = ((it.kind ≡ kind.Comment) × AreLexemesOf more ts)
    ⊎ ((t : Token) × (others : List Token) × (ts ≡ t ∷ others) × IsLexemeOf it t.lexeme
    × AreLexemesOf more others)
