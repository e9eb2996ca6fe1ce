-- A text as its pieces: the tokens of Cedar's schema text, and what stands between them.
use Rattle.std.specs.List.{flat_map}
use Rattle.std.specs.Prelude.{◌≡◌, ℕ, zero, suc, List, [], ◌∷◌, ◌++◌, codes, string_bytes}
use Rattle.std.specs.declared.alloc.Global.{Global}
use Rattle.std.specs.declared.string.String.{String}
use Rattle.cedar_ast.specs.Words.{PlainName, Text, quoted_text}

-- a token: a word, a quoted text or a sign; or what stands between tokens: a blank, or a line end
-- with two blanks for each level behind it
pub data Piece : Type 0 where
  word : Text → Piece
  quoted : Text → Piece
  sign : Text → Piece
  blank : Piece
  line : ℕ → Piece

-- two blanks for each level
abbrev pub indent : ℕ → Text
indent zero = []
indent (suc level) = 32 ∷ 32 ∷ indent level

-- the bytes of a piece; in a quoted text, control characters, quotes and backslashes are escaped
abbrev pub spelled : Piece → Text
spelled (word text) = text
spelled (quoted text) = quoted_text text
spelled (sign text) = text
spelled blank = 32 ∷ []
spelled (line level) = 10 ∷ indent level

-- the bytes of pieces, one after another
abbrev pub text_of : List Piece → Text
text_of pieces = flat_map spelled pieces

-- the tokens among pieces
abbrev pub token_of : Piece → List Piece
token_of (word text) = word text ∷ []
token_of (quoted text) = quoted text ∷ []
token_of (sign text) = sign text ∷ []
token_of blank = []
token_of (line level) = []

-- the bytes of the pieces were added to a text
abbrev pub Adds : String Global → String Global → List Piece → Type 0
Adds old new pieces = string_bytes new ≡ string_bytes old ++ text_of pieces

-- a name: its identifiers with `::` between them
abbrev pub path_pieces : PlainName → List Piece
path_pieces name =
    flat_map (λ part. word part ∷ sign (codes "::") ∷ []) name.path ++ word name.base ∷ []

-- the items behind the first of a list
abbrev pub others_pieces : {A : Type 0} → (A → List Piece) → List A → List Piece
others_pieces item others = flat_map (λ it. sign (codes ",") ∷ blank ∷ item it) others

-- items with a comma and a blank between them
abbrev pub separated : {A : Type 0} → (A → List Piece) → List A → List Piece
separated item [] = []
separated item (first ∷ others) = item first ++ others_pieces item others

-- a list in brackets, on one line
abbrev pub list_pieces : {A : Type 0} → (A → List Piece) → List A → List Piece
list_pieces item items = sign (codes "[") ∷ (separated item items ++ sign (codes "]") ∷ [])
