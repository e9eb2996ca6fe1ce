use Rattle.std.specs.Cmp.Lexicographic.{slice_cmp}
use Rattle.std.specs.Ordering.{nat_cmp}
use Rattle.std.specs.Prelude.{ℕ, List}
use Rattle.std.specs.declared.cmp.Ordering.{Ordering}

-- a text is its bytes
abbrev pub Text : Type 0
Text = List ℕ

-- the order of texts: by their bytes, as in a dictionary
abbrev pub text_cmp : Text → Text → Ordering
text_cmp = slice_cmp nat_cmp
