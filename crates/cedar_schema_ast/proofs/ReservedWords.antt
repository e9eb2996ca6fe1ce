-- The words that name types of Cedar's own.
use Rattle.std.proofs.Common.{◌≡◌, ◌⊎◌, codes, inl, inr, lit<, sym}
use Rattle.cedar_schema_ast.specs.Words.{IsReservedTypeWord, Text}

-- a text that is one of the eight words is reserved
pub reserved_from_cases : (text : Text) →
    (text ≡ codes "Bool") ⊎ ((text ≡ codes "Boolean") ⊎ ((text ≡ codes "Entity") ⊎ ((text ≡ codes "Extension")
    ⊎ ((text ≡ codes "Long") ⊎ ((text ≡ codes "Record") ⊎ ((text ≡ codes "Set") ⊎ (text ≡ codes "String")))))))
    → IsReservedTypeWord text
reserved_from_cases text (inl e) = (0, lit< tt, sym e)
reserved_from_cases text (inr (inl e)) = (1, lit< tt, sym e)
reserved_from_cases text (inr (inr (inl e))) = (2, lit< tt, sym e)
reserved_from_cases text (inr (inr (inr (inl e)))) = (3, lit< tt, sym e)
reserved_from_cases text (inr (inr (inr (inr (inl e))))) = (4, lit< tt, sym e)
reserved_from_cases text (inr (inr (inr (inr (inr (inl e)))))) = (5, lit< tt, sym e)
reserved_from_cases text (inr (inr (inr (inr (inr (inr (inl e))))))) = (6, lit< tt, sym e)
reserved_from_cases text (inr (inr (inr (inr (inr (inr (inr e))))))) = (7, lit< tt, sym e)
