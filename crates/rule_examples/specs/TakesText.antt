use Rattle.std.specs.Prelude.{◌≡◌, [], ◌∷◌, Some}
use Rattle.cedar_ast.specs.Words.{IsKnown, PlainName, argument_types, core_extension, core_text, result_type}
use Rattle.cedar_ast.specs.declared.extension.ExtensionFunction.{ExtensionFunction}
use Rattle.cedar_ast.specs.declared.extension.Extensions.{Extensions}

-- a function of that name takes a text and returns values of that extension type
abbrev pub TakesText : Extensions → PlainName → PlainName → Type 0
TakesText extensions name ty =
    (function : ExtensionFunction)
    × IsKnown extensions name function
    × (result_type function ≡ Some (core_extension ty))
    × (argument_types function ≡ core_text ∷ [])
