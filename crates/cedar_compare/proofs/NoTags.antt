-- Entities without tags.
use Rattle.std.proofs.Common.{◌≡◌, Option, Some, None, refl}
use Rattle.cedar_compare.specs.Words.{AreTagsOf, Extensions, Ty, no_entry}

-- no tags are tags of each type
pub no_tags : (extensions : Extensions) (ty : Option Ty) → AreTagsOf extensions ty no_entry
no_tags extensions None = refl
no_tags extensions (Some ty) = λ name value found. let wrong : None ≡ Some value = found in absurd cc
