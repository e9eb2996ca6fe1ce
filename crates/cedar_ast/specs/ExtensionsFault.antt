use Rattle.std.specs.Prelude.{List, Contains}
use Rattle.cedar_ast.specs.Lists.{Twice}
use Rattle.cedar_ast.specs.Name.{plain_name}
use Rattle.cedar_ast.specs.PlainName.{PlainName, IsUnqualified}
use Rattle.cedar_ast.specs.TypeNames.{primitive_words}
use Rattle.cedar_ast.specs.declared.extension.ExtensionsFault.{ExtensionsFault}
use Rattle.cedar_ast.specs.declared.extension.ExtensionsFault.TheVariants.{Qualified, Repeated, Primitive}

-- the fault is one of the names: one of them has a path, one stands twice, or one is that of a core
-- type
abbrev pub IsExtensionsFault : List PlainName → ExtensionsFault → Type 0
IsExtensionsFault names (Qualified name) =
    Contains names (plain_name name) × ¬ IsUnqualified (plain_name name)
IsExtensionsFault names (Repeated name) = Twice names (plain_name name)
IsExtensionsFault names (Primitive name) =
    Contains names (plain_name name) × Contains primitive_words (plain_name name).base
