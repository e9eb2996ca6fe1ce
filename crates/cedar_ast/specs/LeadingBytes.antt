use Rattle.std.specs.Prelude.{ℕ, zero, suc, ◌+◌, ◌*◌, List, [], ◌∷◌, length, min}
use Rattle.std.specs.Slice.Scan.{big_endian}
use Rattle.cedar_ast.specs.Text.{Text}

-- the first bytes of a text, so many; what a shorter text lacks are zeros
abbrev pub beginning : ℕ → Text → Text
beginning zero text = []
beginning (suc count) [] = 0 ∷ beginning count []
beginning (suc count) (byte ∷ text) = byte ∷ beginning count text

-- the number that they spell, the first weighing most
abbrev pub leading_bytes : ℕ → Text → ℕ
leading_bytes count text = big_endian 0 (beginning count text)

-- how a name ends, by the length of its base name and by its path: apart for base names of up to
-- seven bytes, with a path or without, and 16 for all longer ones
abbrev pub ending : {X : Type 0} → ℕ → List X → ℕ
ending bytes [] = 2 * min bytes 8
ending bytes (part ∷ path) = min (2 * bytes + 1) 16

-- what a name of a base name and a path begins with: seven bytes of the base name, and how it ends
abbrev pub name_leading : {X : Type 0} → Text → List X → ℕ
name_leading base path = leading_bytes 7 base * 256 + ending (length base) path
