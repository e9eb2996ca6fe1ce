use Rattle.std.specs.Prelude.{◌≡◌}
use Rattle.cedar_ast.specs.IsValue.{AreEntries, AreValues, IsValue}
use Rattle.cedar_ast.specs.Tree.{Entries, Tree, Trees}

-- a value is a copy of another: it is the same, and a real one
abbrev pub IsCopy : Tree → Tree → Type 0
IsCopy value copy = (copy ≡ value) × IsValue copy

-- values are copies of others in turn: they are the same, and real ones
abbrev pub AreCopies : Trees → Trees → Type 0
AreCopies values copies = (copies ≡ values) × AreValues copies

-- the values of a record are copies of another's: they are the same by name, and real ones
abbrev pub AreEntryCopies : Entries → Entries → Type 0
AreEntryCopies values copies = (copies ≡ values) × AreEntries copies
