use Rattle.std.specs.Prelude.{◌++◌, codes}
use Rattle.cedar_ast.specs.Name.{plain_name}
use Rattle.cedar_ast.specs.PlainName.{name_text}
use Rattle.cedar_ast.specs.Text.{Text}
use Rattle.cedar_ast.specs.declared.extension.ExtensionsFault.{ExtensionsFault}
use Rattle.cedar_ast.specs.declared.extension.ExtensionsFault.TheVariants.{Qualified, Repeated, Primitive}

-- why names can't be those of extension types, as it is printed
abbrev pub extensions_fault_text : ExtensionsFault → Text
extensions_fault_text (Qualified name) =
    codes "the extension type " ++ (name_text (plain_name name) ++ codes " is qualified")
extensions_fault_text (Repeated name) =
    codes "the extension type " ++ (name_text (plain_name name) ++ codes " stands twice")
extensions_fault_text (Primitive name) =
    codes "the extension type " ++ (name_text (plain_name name)
    ++ codes " has the name of a core type")
