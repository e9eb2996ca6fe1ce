use Rattle.std.specs.Prelude.{◌↔◌, Bool}
use Rattle.cedar_ast.specs.Words.{Included, IsValue, Tree}
use Rattle.cedar_ast.specs.declared.extension.Extensions.{Extensions}
use Rattle.cedar_ast.specs.declared.validation_mode.ValidationMode.TheVariants.{Permissive}
use Rattle.cedar_type_rules.specs.Below.{HasField, Below}
use Rattle.cedar_type_rules.specs.Fields.{field_names}
use Rattle.cedar_type_rules.specs.Has.{Has}
use Rattle.cedar_type_rules.specs.IncludedByParts.{IncludedByParts}
use Rattle.cedar_type_rules.specs.Stated.{IsInhabited, IsStated}
use Rattle.cedar_type_rules.specs.Ty.{Ty, set_of, record_of, Fields, end, field}
use Rattle.cedar_type_rules.specs.WellFormed.{IsWellFormed}

-- each value of the one type is a value of the other
abbrev pub ValuesIncluded : Extensions → Ty → Ty → Type 0
ValuesIncluded extensions lower upper = (value : Tree) → IsValue value → Has extensions value lower
    → Has extensions value upper

abbrev mutual
  -- the lower type lists the upper's names: at each place that both have, each name of the upper
  -- record is one of the lower record
  pub ListsNames : Ty → Ty → Type 0
  ListsNames (set_of lower) (set_of upper) = ListsNames lower upper
  ListsNames (record_of lower openness) (record_of upper upper_openness) =
      Included (field_names upper) (field_names lower) × FieldsListNames lower upper
  ListsNames _ _ = Unit {0}

  -- the types of the attributes of a name that both records have list the names
  pub FieldsListNames : Fields → Fields → Type 0
  FieldsListNames lower end = Unit {0}
  FieldsListNames lower (field name required ty upper) =
      ((own_required : Bool) (own : Ty) → HasField lower name own_required own → ListsNames own ty)
      × FieldsListNames lower upper

-- of two types, if they are stated, permissive subtyping is inclusion of values
abbrev pub SubtypingIsInclusionOf : Ty → Ty → Type 0
SubtypingIsInclusionOf a b =
    (extensions : Extensions) → IsStated extensions a → IsStated extensions b
    → Below Permissive a b ↔ ValuesIncluded extensions a b

-- of two types, if they are inhabited throughout, permissive subtyping is inclusion of values where
-- the lower type lists the upper's names
abbrev pub SubtypingIsInclusionAndNamesOf : Ty → Ty → Type 0
SubtypingIsInclusionAndNamesOf a b =
    (extensions : Extensions) → IsInhabited extensions a → IsInhabited extensions b
    → Below Permissive a b ↔ (ValuesIncluded extensions a b × ListsNames a b)

-- on types of which the first is inhabited throughout, inclusion by parts is inclusion of values
abbrev pub PartsTellInclusion : Type 0
PartsTellInclusion = (a b : Ty) → IsWellFormed a → IsWellFormed b → (extensions : Extensions)
    → IsInhabited extensions a → IncludedByParts a b ↔ ValuesIncluded extensions a b

-- on stated types, permissive subtyping is inclusion of values
abbrev pub SubtypingIsInclusion : Type 0
SubtypingIsInclusion = (a b : Ty) → IsWellFormed a → IsWellFormed b → SubtypingIsInclusionOf a b

-- with optional attributes too, it is inclusion of values where the lower type lists the upper's
-- names
abbrev pub SubtypingIsInclusionAndNames : Type 0
SubtypingIsInclusionAndNames = (a b : Ty) → IsWellFormed a → IsWellFormed b
    → SubtypingIsInclusionAndNamesOf a b
