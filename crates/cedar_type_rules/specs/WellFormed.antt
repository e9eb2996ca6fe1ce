use Rattle.std.specs.List.Sorted.{IsStrictlySortedBy}
use Rattle.std.specs.Prelude.{◌≢◌, List, [], Contains}
use Rattle.cedar_ast.specs.Words.{IsName, IsText, PlainName, Text, name_cmp}
use Rattle.cedar_type_rules.specs.Fields.{IsSortedByName, field_names}
use Rattle.cedar_type_rules.specs.Ty.{Ty, union_of, set_of, record_of, extension_of, Fields, end, field}

-- each name isn't reserved
abbrev pub AreNames : List PlainName → Type 0
AreNames names = (name : PlainName) → Contains names name → IsName name

-- each name of an attribute is a text
abbrev pub AreTexts : List Text → Type 0
AreTexts names = (name : Text) → Contains names name → IsText name

abbrev mutual
  -- a plain type is well formed: in each union and in each record in it the names are sorted
  -- without duplicates, no union is empty, the names of entity types and of extension types aren't
  -- reserved, and the names of attributes are texts
  pub IsWellFormed : Ty → Type 0
  IsWellFormed (union_of names) = (names ≢ []) × IsStrictlySortedBy name_cmp names × AreNames names
  IsWellFormed (set_of ty) = IsWellFormed ty
  IsWellFormed (record_of fields openness) =
      IsSortedByName fields × AreWellFormed fields × AreTexts (field_names fields)
  IsWellFormed (extension_of name) = IsName name
  IsWellFormed _ = Unit {0}

  -- the type of each attribute is well formed
  pub AreWellFormed : Fields → Type 0
  AreWellFormed end = Unit {0}
  AreWellFormed (field name required ty rest) = IsWellFormed ty × AreWellFormed rest
