use Rattle.std.specs.Fmt.{decimal}
use Rattle.std.specs.Prelude.{◌++◌, codes}
use Rattle.cedar_ast.specs.Text.{Text}
use Rattle.cedar_ast.specs.declared.name_fault.NameFault.{NameFault}
use Rattle.cedar_ast.specs.declared.name_fault.NameFault.TheVariants.{NotAName, Reserved, NoCommonType, Memory}

-- why a text is no name, as it is printed
abbrev pub name_fault_text : NameFault → Text
name_fault_text (NotAName at) = codes "the text can't be read on from byte " ++ decimal at
name_fault_text Reserved = codes "a part of the name is the reserved word __cedar"
name_fault_text NoCommonType = codes "the name is that of a type of Cedar's own"
name_fault_text (Memory refused) = codes "out of memory"
