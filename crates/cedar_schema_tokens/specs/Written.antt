-- How tokens are written (Cedar reference, "Schema format"). A relation says of some bytes that
-- they begin with a part, and of the rest that they go on after it.
use Rattle.std.specs.Prelude.{◌≡◌, ◌≢◌, ℕ, ◌+◌, ◌*◌, ◌-◌, ◌<◌, ◌≤◌, Bool, true, false, ◌&&◌, ◌⊎◌, List, [], ◌∷◌, ◌++◌, length, Some}
use Rattle.std.specs.List.{list_all}
use Rattle.std.specs.Char.{is_ascii_hexdigit, encode_utf8, IsScalar}
use Rattle.cedar_schema_tokens.specs.declared.token.Symbol.{Symbol}
use Rattle.cedar_schema_tokens.specs.declared.token.Symbol.TheVariants as sym
use Rattle.cedar_schema_tokens.specs.Token.{Lexeme, ident, text, symbol, Token}
use Rattle.cedar_schema_tokens.specs.Lexical.{first, is_start, is_word, is_plain, simple, hex_from, after_gap, place}

-- the bytes that spell a symbol
abbrev pub spelling : Symbol → List ℕ
spelling sym.PathSeparator = 58 ∷ 58 ∷ []
spelling sym.Colon = 58 ∷ []
spelling sym.Comma = 44 ∷ []
spelling sym.Semicolon = 59 ∷ []
spelling sym.Question = 63 ∷ []
spelling sym.Equals = 61 ∷ []
spelling sym.Less = 60 ∷ []
spelling sym.Greater = 62 ∷ []
spelling sym.OpenBracket = 91 ∷ []
spelling sym.CloseBracket = 93 ∷ []
spelling sym.OpenBrace = 123 ∷ []
spelling sym.CloseBrace = 125 ∷ []
spelling sym.OpenParenthesis = 40 ∷ []
spelling sym.CloseParenthesis = 41 ∷ []
spelling sym.At = 64 ∷ []

-- [_A-Za-z][_A-Za-z0-9]*
abbrev pub is_id : List ℕ → Bool
is_id [] = false
is_id (b ∷ bs) = is_start b && list_all is_word bs

-- A backslash and a letter; `\x` and two hexadecimal digits, up to 7F; or `\u{`, one to six
-- hexadecimal digits, and `}`, where these are the code of a character. The escape stands for the
-- character c.
abbrev pub IsSimple : ℕ → List ℕ → List ℕ → Type 0
IsSimple c all rest = (letter : ℕ) × (simple letter ≡ Some c) × (all ≡ 92 ∷ letter ∷ rest)

abbrev pub IsByte : ℕ → List ℕ → List ℕ → Type 0
IsByte c all rest =
    (d : ℕ) × (e : ℕ) × (list_all is_ascii_hexdigit (d ∷ e ∷ []) ≡ true)
    × (c ≡ hex_from 0 (d ∷ e ∷ [])) × (c < 128) × (all ≡ 92 ∷ 120 ∷ d ∷ e ∷ rest)

abbrev pub IsCode : ℕ → List ℕ → List ℕ → Type 0
IsCode c all rest =
    (ds : List ℕ) × (list_all is_ascii_hexdigit ds ≡ true) × (0 < length ds) × (length ds ≤ 6)
    × (c ≡ hex_from 0 ds) × IsScalar c
    × (all ≡ 92 ∷ 117 ∷ 123 ∷ (ds ++ 125 ∷ rest))

abbrev pub IsEscape : ℕ → List ℕ → List ℕ → Type 0
IsEscape c all rest = IsSimple c all rest ⊎ (IsByte c all rest ⊎ IsCode c all rest)

-- a byte that stands for itself, or an escape of a character
pub data Piece : Type 0 where
  plain : ℕ → Piece
  escaped : ℕ → Piece

-- the pieces stand there, and stand for these bytes
abbrev pub ArePieces : List Piece → List ℕ → List ℕ → List ℕ → Type 0
ArePieces [] bytes all rest = (bytes ≡ []) × (all ≡ rest)
ArePieces (plain b ∷ ps) bytes all rest =
    (more : List ℕ) × (next : List ℕ) × (is_plain b ≡ true) × (bytes ≡ b ∷ more) × (all ≡ b ∷ next)
    × ArePieces ps more next rest
ArePieces (escaped c ∷ ps) bytes all rest =
    (more : List ℕ) × (next : List ℕ) × IsEscape c all next × (bytes ≡ encode_utf8 c ++ more)
    × ArePieces ps more next rest

-- an id goes on as long as it can, and a colon before another is a symbol of two
abbrev pub IsWritten : Lexeme → List ℕ → List ℕ → Type 0
IsWritten (ident w) all rest = (is_id w ≡ true) × (all ≡ w ++ rest) × (is_word (first rest) ≡ false)
IsWritten (text s) all rest =
    (ps : List Piece) × (inner : List ℕ) × (all ≡ 34 ∷ inner) × ArePieces ps s inner (34 ∷ rest)
IsWritten (symbol m) all rest = (all ≡ spelling m ++ rest) × (m ≡ sym.Colon → first rest ≢ 58)

-- The tokens begin the bytes, which end a text of `total` bytes: each behind white space and
-- comments, at its place.
abbrev pub Begin : ℕ → ℕ → List Token → List ℕ → List ℕ → Type 0
Begin source total [] all rest = all ≡ rest
Begin source total (t ∷ ts) all rest =
    (next : List ℕ) × IsWritten t.lexeme (after_gap all) next
    × (t.loc ≡ place source total (length (after_gap all)) (length next))
    × Begin source total ts next rest

-- the tokens of a text, all of it
abbrev pub AreTokens : ℕ → List ℕ → List Token → Type 0
AreTokens source all ts =
    (rest : List ℕ) × Begin source (length all) ts all rest × (after_gap rest ≡ [])
