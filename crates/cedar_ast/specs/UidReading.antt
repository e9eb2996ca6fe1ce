use Rattle.std.specs.Prelude.{◌≡◌, ◌≢◌, ◌++◌, ⊤, Option, None, Some, codes}
use Rattle.cedar_ast.specs.InternalName.{name_loc, name_of}
use Rattle.cedar_ast.specs.NameText.{IsNameText, IsOfIdentifiers}
use Rattle.cedar_ast.specs.PlainName.{PlainName, name_text}
use Rattle.cedar_ast.specs.Stops.{IsLongestBeginning}
use Rattle.cedar_ast.specs.Text.{Text}
use Rattle.cedar_ast.specs.declared.internal_name.InternalName.{InternalName}
use Rattle.cedar_ast.specs.declared.name_fault.NameFault.{NameFault}
use Rattle.cedar_ast.specs.declared.name_fault.NameFault.TheVariants.{NotAName, Reserved, NoCommonType, Memory}

-- why what stands before the quote of a uid doesn't go on to it
abbrev pub IsTypeFault : Text → NameFault → Type 0
IsTypeFault before (NotAName at) = IsLongestBeginning IsNameText before at
IsTypeFault before Reserved = ⊥
IsTypeFault before NoCommonType = ⊥
IsTypeFault before (Memory refused) = ⊤

-- the name, without a location, that stands before `::`, or none where no name does
abbrev pub IsTypeBefore : Text → Option InternalName → Type 0
IsTypeBefore before None = (name : PlainName) → IsOfIdentifiers name
    → before ≢ name_text name ++ codes "::"
IsTypeBefore before (Some name) =
    (before ≡ name_text (name_of name) ++ codes "::") × (name_loc name ≡ None)
