use Rattle.std.specs.Prelude.{List, [], ◌∷◌, codes, Contains}
use Rattle.cedar_ast.specs.Text.{Text}

-- the words that name types of Cedar's own
abbrev pub reserved_type_words : List Text
reserved_type_words =
    codes "Bool" ∷ codes "Boolean" ∷ codes "Entity" ∷ codes "Extension"
    ∷ codes "Long" ∷ codes "Record" ∷ codes "Set" ∷ codes "String" ∷ []

-- the text names a type of Cedar's own, so no common type may have it as its name
abbrev pub IsReservedTypeWord : Text → Type 0
IsReservedTypeWord text = Contains reserved_type_words text
