-- Reading tokens from the bytes of a text, as a function.
use Rattle.std.specs.Prelude.{ℕ, zero, suc, ◌+◌, ◌-◌, ◌*◌, Bool, not, ◌&&◌, ◌||◌, ◌==◌, nat_le, nat_lt, if◌then◌else◌, List, [], ◌∷◌, ◌++◌, length, take, drop, slice_index, Option, Some, None, Result, Ok, Err}
use Rattle.std.specs.List.{prefix_len}
use Rattle.std.specs.Char.{is_ascii_alphabetic, is_ascii_alphanumeric, is_ascii_hexdigit, is_whitespace, digit_value, len_utf8, encode_utf8}
use Rattle.std.specs.Str.{chars}
use lib.Utf8.{scalar}
use Rattle.cedar_ast.specs.declared.loc.Loc.{Loc}
use Rattle.cedar_schema_tokens.specs.declared.fault.Stop.{Stop}
use Rattle.cedar_schema_tokens.specs.declared.fault.Stop.TheVariants.{At, Memory}
use Rattle.cedar_schema_tokens.specs.declared.fault.Wrong.TheVariants as wrong
use Rattle.cedar_schema_tokens.specs.declared.fault.TokenFault.{TokenFault}
use Rattle.cedar_schema_tokens.specs.declared.fault.TokenFault.TheVariants as fault
use Rattle.cedar_schema_tokens.specs.declared.token.Symbol.{Symbol}
use Rattle.cedar_schema_tokens.specs.declared.token.Symbol.TheVariants as sym
use Rattle.cedar_schema_tokens.specs.Token.{Lexeme, ident, text, symbol, Token}

-- the bytes of an id, and those that it begins with
abbrev pub is_word : ℕ → Bool
is_word b = is_ascii_alphanumeric b || b == 95

abbrev pub is_start : ℕ → Bool
is_start b = is_ascii_alphabetic b || b == 95

-- the bytes of a comment, which a line feed or a carriage return ends
abbrev pub is_line : ℕ → Bool
is_line b = not (b == 10) && not (b == 13)

-- the bytes of a quoted text that stand for themselves: all but a quote, a backslash and a carriage
-- return
abbrev pub is_plain : ℕ → Bool
is_plain b = (not (b == 34) && not (b == 92)) && not (b == 13)

-- the first byte, or 0
abbrev pub first : List ℕ → ℕ
first bytes = slice_index bytes 0

-- the first character, or 0
abbrev pub first_char : List ℕ → ℕ
first_char bytes = slice_index (chars bytes) 0

-- ---- white space and comments

-- how many bytes the white space character at the front takes
abbrev pub blank_len : List ℕ → ℕ
blank_len all = if is_whitespace (first_char all) then len_utf8 (first_char all) else 0

-- how many bytes the comment or the white space character at the front takes
abbrev pub gap_len : List ℕ → ℕ
gap_len all =
    if first all == 47 && slice_index all 1 == 47 then prefix_len is_line all else blank_len all

-- The number bounds the turns; the count of the bytes is enough.
unfoldable pub gap_from : ℕ → List ℕ → List ℕ
gap_from zero all = all
gap_from (suc n) all = if gap_len all == 0 then all else gap_from n (drop (gap_len all) all)

-- without the white space and the comments at the front
abbrev pub after_gap : List ℕ → List ℕ
after_gap all = gap_from (length all) all

-- ---- outcomes

-- what is read and the rest, or why reading stops
abbrev pub Outcome : Type 0 → Type 0
Outcome A = Result (A × List ℕ) Stop

abbrev pub and_then : {A B : Type 0} → Outcome A → (A → List ℕ → Outcome B) → Outcome B
and_then (Ok p) f = f p.0 p.1
and_then (Err e) f = Err e

-- the longest front whose bytes pass, and the rest
abbrev pub split_while : (ℕ → Bool) → List ℕ → List ℕ × List ℕ
split_while p bytes = (take (prefix_len p bytes) bytes, drop (prefix_len p bytes) bytes)

-- ---- escapes

-- what a letter stands for behind a backslash
abbrev pub simple : ℕ → Option ℕ
simple b =
    if b == 110 then Some 10
    else (if b == 114 then Some 13 else (if b == 116 then Some 9 else (if b == 48 then Some 0
    else (if b == 92 then Some 92
    else (if b == 34 then Some 34 else (if b == 39 then Some 39 else None))))))

-- the number that hexadecimal digits spell, behind others of this value
abbrev pub hex_from : ℕ → List ℕ → ℕ
hex_from v [] = v
hex_from v (d ∷ ds) = hex_from (16 * v + digit_value d) ds

-- the character whose code the digits spell
abbrev pub char_of : List ℕ → Option ℕ
char_of ds = if scalar (hex_from 0 ds) then Some (hex_from 0 ds) else None

-- behind `\x`
abbrev pub byte_escape : List ℕ → Option (ℕ × List ℕ)
byte_escape all =
    let code = 16 * digit_value (slice_index all 0) + digit_value (slice_index all 1) in
    if is_ascii_hexdigit (slice_index all 0) && is_ascii_hexdigit (slice_index all 1)
    && nat_lt code 128
    then Some (code, drop 2 all) else None

abbrev pub with_rest : List ℕ → Option ℕ → Option (ℕ × List ℕ)
with_rest rest (Some c) = Some (c, rest)
with_rest rest None = None

-- behind `\u{`
abbrev pub code_escape : List ℕ → Option (ℕ × List ℕ)
code_escape all =
    let parts = split_while is_ascii_hexdigit all in
    if (nat_lt 0 (length parts.0) && nat_le (length parts.0) 6) && first parts.1 == 125
    then with_rest (drop 1 parts.1) (char_of parts.0) else None

-- the escape at the front
abbrev pub escape : List ℕ → Option (ℕ × List ℕ)
escape all =
    if not (first all == 92) then None
    else (if slice_index all 1 == 120 then byte_escape (drop 2 all)
    else (if slice_index all 1 == 117
    then (if slice_index all 2 == 123 then code_escape (drop 3 all) else None)
    else with_rest (drop 2 all) (simple (slice_index all 1))))

-- ---- quoted texts

-- why a quoted text with `left` bytes from its quote on ends before these bytes
abbrev pub part_stop : ℕ → List ℕ → Stop
part_stop left all =
    if first all == 13 then At wrong.Part (length all) (length all - 1)
    else (if nat_le (length all) 1 || not (first all == 92) then At wrong.Quote left 0
    else At wrong.Part (length all) (length all - (1 + len_utf8 (first_char (drop 1 all)))))

abbrev pub on_escape : {A : Type 0} → Option (ℕ × List ℕ) → Stop → (ℕ → List ℕ → Outcome A)
    → Outcome A
on_escape (Some p) stop go = go p.0 p.1
on_escape None stop go = Err stop

-- Behind the opening quote: plain bytes, and then the closing quote or an escape. The number bounds
-- the turns; the count of the bytes is enough.
unfoldable pub quoted_from : ℕ → ℕ → List ℕ → List ℕ → Outcome (List ℕ)
quoted_from left zero found all = Err (At wrong.Quote left 0)
quoted_from left (suc n) found all =
    let parts = split_while is_plain all in
    if first parts.1 == 34 then Ok (found ++ parts.0, drop 1 parts.1)
    else on_escape (escape parts.1) (part_stop left parts.1) (λ c rest. quoted_from left n ((found
    ++ parts.0) ++ encode_utf8 c) rest)

-- from the opening quote on
unfoldable pub quoted : List ℕ → Outcome (List ℕ)
quoted all = quoted_from (length all) (length all) [] (drop 1 all)

-- ---- single tokens

-- the symbol of one byte
abbrev pub symbol_of : ℕ → Option Symbol
symbol_of b =
    if b == 58 then Some sym.Colon
    else (if b == 44 then Some sym.Comma
    else (if b == 59 then Some sym.Semicolon else (if b == 63 then Some sym.Question
    else (if b == 61 then Some sym.Equals
    else (if b == 60 then Some sym.Less else (if b == 62 then Some sym.Greater
    else (if b == 91 then Some sym.OpenBracket
    else (if b == 93 then Some sym.CloseBracket else (if b == 123 then Some sym.OpenBrace
    else (if b == 125 then Some sym.CloseBrace
    else (if b == 40 then Some sym.OpenParenthesis
    else (if b == 41 then Some sym.CloseParenthesis
    else (if b == 64 then Some sym.At else None)))))))))))))

-- a character that begins no token
abbrev pub bad_character : List ℕ → Stop
bad_character all = At wrong.Character (length all) (length all - len_utf8 (first_char all))

abbrev pub one_symbol : List ℕ → Option Symbol → Outcome Lexeme
one_symbol all (Some m) = Ok (symbol m, drop 1 all)
one_symbol all None = Err (bad_character all)

-- what is no id
abbrev pub other_lexeme : List ℕ → Outcome Lexeme
other_lexeme all =
    if first all == 34 then and_then (quoted all) (λ s rest. Ok (text s, rest))
    else (if first all == 58 && slice_index all 1 == 58
    then Ok (symbol sym.PathSeparator, drop 2 all) else one_symbol all (symbol_of (first all)))

unfoldable pub lexeme_at : List ℕ → Outcome Lexeme
lexeme_at all =
    if is_start (first all)
    then Ok (ident (split_while is_word all).0, (split_while is_word all).1) else other_lexeme all

-- ---- all tokens

-- The place in a text of `total` bytes that begins where `left` bytes are left, and ends where
-- `behind` bytes are.
abbrev pub place : ℕ → ℕ → ℕ → ℕ → Loc
place source total left behind =
    record { source = source; start = total - left; stop = total - behind }

-- the refusal of such a text at which reading stops so
abbrev pub fault_of : ℕ → ℕ → Stop → TokenFault
fault_of source total (At wrong.Character left behind) =
    fault.BadCharacter (place source total left behind)
fault_of source total (At wrong.Quote left behind) =
    fault.OpenQuote (place source total left behind)
fault_of source total (At wrong.Part left behind) = fault.BadEscape (place source total left behind)
fault_of source total Memory = fault.Memory

abbrev pub onward : Outcome Lexeme → (Lexeme → List ℕ → Result (List Token) Stop)
    → Result (List Token) Stop
onward (Ok p) f = f p.0 p.1
onward (Err e) f = Err e

-- the token between these bytes of a text of `total` bytes
abbrev pub token_between : ℕ → ℕ → Lexeme → List ℕ → List ℕ → Token
token_between source total t front rest =
    record { lexeme = t; loc = place source total (length front) (length rest) }

unfoldable pub tokens_from : ℕ → ℕ → ℕ → List Token → List ℕ → Result (List Token) Stop
tokens_from source total zero found all = Ok found
tokens_from source total (suc n) found all =
    let front = after_gap all in
    if length front == 0 then Ok found
    else onward (lexeme_at front) (λ t rest. tokens_from source total n (found
    ++ token_between source total t front rest ∷ []) rest)

unfoldable pub tokens : ℕ → List ℕ → Result (List Token) Stop
tokens source all = tokens_from source (length all) (length all) [] all
