use Rattle.std.specs.Prelude.{ℕ, ◌<◌, ◌≤◌, ◌++◌, length, take}
use Rattle.std.specs.Str.{IsUtf8}
use Rattle.cedar_ast.specs.Text.{Text}

-- a text of the language begins so
abbrev pub Begins : (Text → Type 0) → Text → Type 0
Begins Language front = (rest : Text) × Language (front ++ rest)

-- the longest beginning of the text that begins a text of the language ends at this byte, where a
-- character begins or the text ends
pub record IsLongestBeginning (Language : Text → Type 0) (text : Text) (at : ℕ) : Type 0 where
  pub within : at ≤ length text
  pub whole : IsUtf8 (take at text)
  pub begins : Begins Language (take at text)
  pub longest : (longer : ℕ) → at < longer → longer ≤ length text → IsUtf8 (take longer text)
      → ¬ Begins Language (take longer text)

-- the text isn't of the language, and stops being so at this byte: its longest beginning ends there
pub record StopsAt (Language : Text → Type 0) (text : Text) (at : ℕ) : Type 0 where
  pub other : ¬ Language text
  pub beginning : IsLongestBeginning Language text at
