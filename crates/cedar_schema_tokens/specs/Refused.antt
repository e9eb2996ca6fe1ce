-- What a refusal says of a text.
use Rattle.std.specs.Prelude.{◌≡◌, ◌≢◌, ℕ, ◌+◌, ◌-◌, ◌^◌, ◌≤◌, ◌⊎◌, List, [], ◌∷◌, length, ⊤}
use Rattle.std.specs.Char.{len_utf8}
use Rattle.cedar_schema_tokens.specs.declared.fault.Stop.{Stop}
use Rattle.cedar_schema_tokens.specs.declared.fault.Stop.TheVariants.{At, Memory}
use Rattle.cedar_schema_tokens.specs.declared.fault.Wrong.TheVariants as wrong
use Rattle.cedar_schema_tokens.specs.declared.fault.TokenFault.{TokenFault}
use Rattle.cedar_schema_tokens.specs.declared.fault.TokenFault.TheVariants as fault
use Rattle.cedar_schema_tokens.specs.Token.{Lexeme, Token}
use Rattle.cedar_schema_tokens.specs.Lexical.{first, first_char, after_gap, fault_of}
use Rattle.cedar_schema_tokens.specs.Written.{Piece, IsEscape, ArePieces, IsWritten, Begin, AreTokens}

-- no token begins the bytes, and they begin with no quote
abbrev pub NoToken : List ℕ → Type 0
NoToken all =
    (all ≢ []) × (first all ≢ 34) × ((t : Lexeme) (rest : List ℕ) → IsWritten t all rest → ⊥)

-- a carriage return, or a backslash and a character, with which no escape begins; width is the
-- number of its bytes
abbrev pub IsBadPart : ℕ → List ℕ → Type 0
IsBadPart width all =
    ((first all ≡ 13) × (width ≡ 1))
    ⊎ ((next : List ℕ) × (all ≡ 92 ∷ next) × (next ≢ []) × (width ≡ 1 + len_utf8 (first_char next))
    × ((c : ℕ) (rest : List ℕ) → IsEscape c all rest → ⊥))

-- Parts of a quoted text begin the bytes behind a quote, and the rest goes on after them.
abbrev pub IsBegunText : List ℕ → List ℕ → Type 0
IsBegunText all rest =
    (ps : List Piece) × (bytes : List ℕ) × (inner : List ℕ) × (all ≡ 34 ∷ inner)
    × ArePieces ps bytes inner rest

-- Reading stops at these bytes: a character begins no token; a quoted text goes on to the end; or
-- it has no part where one should begin. The numbers count the bytes from the fault on, and those
-- behind it.
abbrev pub IsStop : Stop → List ℕ → Type 0
IsStop (At wrong.Character left behind) all =
    NoToken all × (left ≡ length all) × (behind ≡ length all - len_utf8 (first_char all))
IsStop (At wrong.Quote left behind) all =
    (rest : List ℕ) × IsBegunText all rest × ((rest ≡ []) ⊎ (rest ≡ 92 ∷ [])) × (left ≡ length all)
    × (behind ≡ 0)
IsStop (At wrong.Part left behind) all =
    (rest : List ℕ) × (width : ℕ) × IsBegunText all rest × IsBadPart width rest
    × (left ≡ length rest) × (behind ≡ length rest - width)
IsStop Memory all = ⊤

-- Tokens begin the text, and reading stops behind them.
abbrev pub IsFaultOf : ℕ → List ℕ → TokenFault → Type 0
IsFaultOf source all it =
    (ts : List Token) × (rest : List ℕ) × (stop : Stop) × Begin source (length all) ts all rest
    × IsStop stop (after_gap rest)
    × (it ≡ fault_of source (length all) stop)

-- The fault that is named is in the text, at the place that is named.
abbrev pub IsRefused : ℕ → List ℕ → TokenFault → Type 0
IsRefused source all fault.Memory = ⊤
IsRefused source all fault.TooLong = 2 ^ 32 ≤ length all
IsRefused source all (fault.BadCharacter loc) = IsFaultOf source all (fault.BadCharacter loc)
IsRefused source all (fault.OpenQuote loc) = IsFaultOf source all (fault.OpenQuote loc)
IsRefused source all (fault.BadEscape loc) = IsFaultOf source all (fault.BadEscape loc)

abbrev NoneAre : ℕ → List ℕ → Type 0
NoneAre source all = (ts : List Token) → AreTokens source all ts → ⊥

-- the text is no tokens
abbrev pub HasNoTokens : ℕ → List ℕ → TokenFault → Type 0
HasNoTokens source all fault.Memory = ⊤
HasNoTokens source all fault.TooLong = ⊤
HasNoTokens source all (fault.BadCharacter loc) = NoneAre source all
HasNoTokens source all (fault.OpenQuote loc) = NoneAre source all
HasNoTokens source all (fault.BadEscape loc) = NoneAre source all
