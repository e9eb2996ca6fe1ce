-- What a layout may change: brackets around one item, commas before closing brackets, and `=` before
-- attributes (Cedar reference, "Schema format").
use Rattle.std.specs.Bool.{⊤}
use Rattle.std.specs.List.{AllByRecursion, flat_map}
use Rattle.std.specs.Prelude.{◌≡◌, ◌≢◌, ◌<◌, ◌≤◌, ◌⊎◌, ℕ, List, [], ◌∷◌, ◌++◌, drop, length, map, take, Some, slice_get}
use Rattle.cedar_schema_text_layout.specs.declared.edited.Edited.{Edited}
use Rattle.cedar_schema_tokens.specs.Spelled.{AreSpelled, IsSpelling, Spelled, spelled_of}
use Rattle.cedar_schema_tokens.specs.Written.{spelling}
use Rattle.cedar_schema_tokens.specs.declared.spelled.Spelled as code
use Rattle.cedar_schema_tokens.specs.declared.spelled.SpelledKind.{SpelledKind}
use Rattle.cedar_schema_tokens.specs.declared.spelled.SpelledKind.TheVariants as kind
use Rattle.cedar_schema_tokens.specs.declared.token.Symbol.{Symbol}
use Rattle.cedar_schema_tokens.specs.declared.token.Symbol.TheVariants as sym

-- one of two things, by whether something is a comment
abbrev pub by_comment : {A : Type 0} → SpelledKind → A → A → A
by_comment kind.Comment one other = one
by_comment kind.Id one other = other
by_comment kind.Text one other = other
by_comment (kind.Symbol it) one other = other

-- the comments among tokens and comments
abbrev pub comments : List Spelled → List Spelled
comments all = flat_map (λ it. by_comment it.kind (it ∷ []) []) all

-- the tokens among them
abbrev pub tokens : List Spelled → List Spelled
tokens all = flat_map (λ it. by_comment it.kind [] (it ∷ [])) all

-- a symbol
abbrev pub sign : Symbol → Spelled
sign it = record { kind = kind.Symbol it; text = spelling it }

-- what becomes of one token, or of some, in a layout: it stays; the comma before a closing bracket
-- is left out; a comma stands before a closing brace; `=` stands before an opening one; and an item
-- stands in brackets
pub data Edit : Type 0 where
  kept : Spelled → Edit
  comma_left_out : Spelled → Spelled → Edit
  comma_added : Spelled → Edit
  equals_added : Spelled → Edit
  brackets_added : List Spelled → Edit

-- the tokens of the text that an edit is of
abbrev pub given : Edit → List Spelled
given (kept token) = token ∷ []
given (comma_left_out comma bracket) = comma ∷ bracket ∷ []
given (comma_added brace) = brace ∷ []
given (equals_added brace) = brace ∷ []
given (brackets_added item) = item

-- those that stand in its place
abbrev pub edited : Edit → List Spelled
edited (kept token) = token ∷ []
edited (comma_left_out comma bracket) = bracket ∷ []
edited (comma_added brace) = sign sym.Comma ∷ brace ∷ []
edited (equals_added brace) = sign sym.Equals ∷ brace ∷ []
edited (brackets_added item) = sign sym.OpenBracket ∷ (item ++ sign sym.CloseBracket ∷ [])

-- what a part of a path is: a name, or what stands between names
abbrev pub IsPathKind : SpelledKind → Type 0
IsPathKind it = (it ≡ kind.Id) ⊎ ((it ≡ kind.Text) ⊎ (it ≡ kind.Symbol sym.PathSeparator))

-- a part of a path
abbrev pub IsOfPath : Spelled → Type 0
IsOfPath it = IsPathKind it.kind

-- an edit is one of tokens that it may be of
abbrev pub IsEdit : Edit → Type 0
IsEdit (kept token) = ⊤
IsEdit (comma_left_out comma bracket) =
    (comma.kind ≡ kind.Symbol sym.Comma) × (bracket.kind ≡ kind.Symbol sym.CloseBracket)
IsEdit (comma_added brace) = brace.kind ≡ kind.Symbol sym.CloseBrace
IsEdit (equals_added brace) = brace.kind ≡ kind.Symbol sym.OpenBrace
IsEdit (brackets_added item) = (item ≢ []) × AllByRecursion IsOfPath item

-- tokens are those of others, but for such edits
abbrev pub AreRelaid : List Spelled → List Spelled → Type 0
AreRelaid all others =
    (edits : List Edit) × AllByRecursion IsEdit edits × (all ≡ flat_map given edits)
    × (others ≡ flat_map edited edits)

-- tokens and comments are those of others, in order, but for such edits
pub record IsRelaid (all others : List Spelled) : Type 0 where
  pub tokens_relaid : AreRelaid (tokens all) (tokens others)
  pub same_comments : comments others ≡ comments all

-- a text has the tokens and the comments of another, in order, but for such edits
abbrev pub IsLayout : List ℕ → List ℕ → Type 0
IsLayout text other =
    (all : List Spelled) × (others : List Spelled) × AreSpelled all text
    × AreSpelled others other × IsRelaid all others

-- each is spelled as its kind is
abbrev pub EachSpelled : List Spelled → Type 0
EachSpelled all = AllByRecursion (λ it. IsSpelling it.kind it.text) all

-- what a layout has so far is that of some tokens and comments; behind its last token there are
-- comments alone
pub record IsSoFar (all : List Spelled) (it : Edited) : Type 0 where
  pub relaid : IsRelaid all (map spelled_of it.items.items)
  pub spelled : EachSpelled all → EachSpelled (map spelled_of it.items.items)
  pub within : it.end ≤ length it.items.items
  pub behind : tokens (map spelled_of (drop it.end it.items.items)) ≡ []

-- what was a layout so far goes on with some tokens and comments
abbrev pub GoesOn : Edited → List Spelled → Edited → Type 0
GoesOn old more new = (all : List Spelled) → IsSoFar all old → IsSoFar (all ++ more) new

-- the tokens and comments before a place
abbrev pub before : List code.Spelled → ℕ → List Spelled
before pieces at = map spelled_of (take at pieces)

-- what stands at a place is such a thing
abbrev pub IsAt : List code.Spelled → ℕ → (SpelledKind → Type 0) → Type 0
IsAt pieces at Holds =
    (it : code.Spelled) × (slice_get pieces at ≡ Some it) × Holds it.kind

-- between two places there are parts of a path, and comments; the first is such a part
abbrev pub IsPathBetween : List code.Spelled → ℕ → ℕ → Type 0
IsPathBetween pieces at end =
    (some : List Spelled) × (tokens (before pieces end) ≡ tokens (before pieces at) ++ some)
    × (some ≢ []) × AllByRecursion IsOfPath some

-- what stood at a place, and perhaps some behind it, is taken over up to another one
abbrev pub Takes : List code.Spelled → ℕ → ℕ → Edited → Type 0
Takes pieces at next it =
    (at < next) × (next ≤ length pieces) × IsSoFar (before pieces next) it

-- a comma, comments, and a closing bracket
abbrev pub IsListEnd : List Spelled → Type 0
IsListEnd all =
    (comma : Spelled) × (between : List Spelled) × (bracket : Spelled)
    × (all ≡ comma ∷ (between ++ bracket ∷ [])) × IsEdit (comma_left_out comma bracket)
    × (tokens between ≡ [])
