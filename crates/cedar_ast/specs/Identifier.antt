use Rattle.std.specs.Char.{is_ascii_alphabetic, is_ascii_digit}
use Rattle.std.specs.List.{list_all}
use Rattle.std.specs.Prelude.{ℕ, Bool, false, ◌||◌, ◌&&◌, ◌==◌, [], ◌∷◌, IsTrue, codes}
use Rattle.cedar_ast.specs.Text.{Text}

-- a byte that may begin an identifier: an ASCII letter or `_`
abbrev pub is_identifier_start : ℕ → Bool
is_identifier_start byte = is_ascii_alphabetic byte || (byte == 95)

-- a byte that may stand in an identifier: an ASCII letter, a digit or `_`
abbrev pub is_identifier_byte : ℕ → Bool
is_identifier_byte byte = is_identifier_start byte || is_ascii_digit byte

-- a text whose first byte may begin an identifier
abbrev pub begins_identifier : Text → Bool
begins_identifier [] = false
begins_identifier (first ∷ rest) = is_identifier_start first

-- a text whose first byte may begin an identifier, and whose bytes may all stand in one
abbrev pub is_identifier_text : Text → Bool
is_identifier_text text = begins_identifier text && list_all is_identifier_byte text

-- the text is an identifier
abbrev pub IsIdentifier : Text → Type 0
IsIdentifier text = IsTrue (is_identifier_text text)

-- the word that no declared name may hold
abbrev pub reserved_word : Text
reserved_word = codes "__cedar"
