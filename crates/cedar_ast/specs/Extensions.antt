use Rattle.std.specs.Prelude.{Option, List, map}
use Rattle.cedar_ast.specs.Name.{plain_name, at_name}
use Rattle.cedar_ast.specs.PlainName.{PlainName}
use Rattle.cedar_ast.specs.declared.extension.ExtensionFunction.{ExtensionFunction}
use Rattle.cedar_ast.specs.declared.extension.Extensions.{Extensions}

-- the names of the extension types, in the order in which they were handed in
abbrev pub extension_types : Extensions → List PlainName
extension_types it = map plain_name it.types.items

-- the extension function of this name
abbrev pub function_named : Extensions → PlainName → Option ExtensionFunction
function_named it name = at_name it.functions name
