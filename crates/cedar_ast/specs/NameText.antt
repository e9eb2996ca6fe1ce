use Rattle.std.specs.List.{All}
use Rattle.std.specs.Prelude.{◌≡◌}
use Rattle.cedar_ast.specs.Identifier.{IsIdentifier}
use Rattle.cedar_ast.specs.PlainName.{PlainName, IsReserved, name_text}
use Rattle.cedar_ast.specs.Text.{Text}

-- each part of the name is an identifier
abbrev pub IsOfIdentifiers : PlainName → Type 0
IsOfIdentifiers name = IsIdentifier name.base × All IsIdentifier name.path

-- some name of identifiers prints as the text
abbrev pub IsNameText : Text → Type 0
IsNameText text = (name : PlainName) × IsOfIdentifiers name × (name_text name ≡ text)

-- some reserved name of identifiers prints as the text
abbrev pub IsReservedNameText : Text → Type 0
IsReservedNameText text = (name : PlainName) × IsOfIdentifiers name × IsReserved name
    × (name_text name ≡ text)
