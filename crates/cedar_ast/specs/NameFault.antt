use Rattle.std.specs.Prelude.{⊤}
use Rattle.cedar_ast.specs.Stops.{StopsAt}
use Rattle.cedar_ast.specs.Text.{Text}
use Rattle.cedar_ast.specs.declared.name_fault.NameFault.{NameFault}
use Rattle.cedar_ast.specs.declared.name_fault.NameFault.TheVariants.{NotAName, Reserved, NoCommonType, Memory}

-- the fault is one of the text: it stops being of the language at that byte, or it is of the
-- reserved texts, or it names a type of Cedar's own
abbrev pub IsNameFault : (Language ReservedText OwnText : Text → Type 0) → Text → NameFault → Type 0
IsNameFault Language ReservedText OwnText text (NotAName at) = StopsAt Language text at
IsNameFault Language ReservedText OwnText text Reserved = ReservedText text
IsNameFault Language ReservedText OwnText text NoCommonType = OwnText text
IsNameFault Language ReservedText OwnText text (Memory refused) = ⊤

-- the fault that memory ran out
abbrev pub memory_fault : NameFault
memory_fault = Memory (record {})
