-- What stands between the tokens and comments of a layout.
use Rattle.std.specs.Bool.{⊤}
use Rattle.std.specs.Prelude.{ℕ, zero, suc, List, [], ◌∷◌, ◌++◌, Option, None, Some}
use Rattle.cedar_schema_text_layout.specs.declared.separator.Separator.{Separator}
use Rattle.cedar_schema_text_layout.specs.declared.separator.Separator.TheVariants.{Nothing, Blank, Line, EmptyLine}
use Rattle.cedar_schema_tokens.specs.Spelled.{Ends, IsSpelling}
use Rattle.cedar_schema_tokens.specs.declared.spelled.SpelledKind.{SpelledKind}

-- two blanks for each level
abbrev pub indent : ℕ → List ℕ
indent zero = []
indent (suc level) = 32 ∷ 32 ∷ indent level

-- the bytes of a separator
abbrev pub separator_bytes : Separator → List ℕ
separator_bytes Nothing = []
separator_bytes Blank = 32 ∷ []
separator_bytes (Line level) = 10 ∷ indent level
separator_bytes (EmptyLine level) = 10 ∷ 10 ∷ indent level

-- what stands last ends where these bytes follow, where there is something
abbrev pub EndsIf : Option SpelledKind → List ℕ → Type 0
EndsIf None rest = ⊤
EndsIf (Some last) rest = Ends last rest

-- what stands before the separator ends there, whatever of a kind is spelled behind it
abbrev pub IsParted : Option SpelledKind → Separator → SpelledKind → Type 0
IsParted last separator following = (bytes rest : List ℕ) → IsSpelling following bytes
    → EndsIf last (separator_bytes separator ++ (bytes ++ rest))
