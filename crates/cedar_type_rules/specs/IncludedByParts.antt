use Rattle.std.specs.Prelude.{◌≡◌, ◌⊎◌, Bool, false, Contains}
use Rattle.cedar_ast.specs.Words.{Included, Text}
use Rattle.cedar_ast.specs.declared.validation_mode.ValidationMode.TheVariants.{Permissive}
use Rattle.cedar_type_rules.specs.Below.{HasField, FlagsBelow, NamesBelow, OpennessBelow}
use Rattle.cedar_type_rules.specs.Fields.{field_names}
use Rattle.cedar_type_rules.specs.Ty.{Ty, never, truth, long, text, any_entity, union_of, any_set, set_of, record_of, extension_of, Fields, end, field}
use Rattle.cedar_type_rules.specs.declared.bool_type.BoolType.TheVariants.{AnyBool}
use Rattle.cedar_type_rules.specs.declared.open_tag.OpenTag.{OpenTag}
use Rattle.cedar_type_rules.specs.declared.open_tag.OpenTag.TheVariants.{ClosedAttributes}

-- no record of the lower type has the name, and the upper type doesn't require it
abbrev pub IsNeverThere : OpenTag → Fields → Text → Bool → Type 0
IsNeverThere openness lower name required =
    (openness ≡ ClosedAttributes) × (¬ Contains (field_names lower) name) × (required ≡ false)

abbrev mutual
  -- the parts of two types say that each value of the lower is one of the upper. It is as
  -- permissive subtyping is but for records, where the lower needn't list an optional attribute of
  -- the upper if it is closed
  pub IncludedByParts : Ty → Ty → Type 0
  IncludedByParts never upper = Unit {0}
  IncludedByParts (truth lower) (truth upper) = (upper ≡ AnyBool) ⊎ (lower ≡ upper)
  IncludedByParts long long = Unit {0}
  IncludedByParts text text = Unit {0}
  IncludedByParts any_entity any_entity = Unit {0}
  IncludedByParts (union_of lower) any_entity = Unit {0}
  IncludedByParts (union_of lower) (union_of upper) = Included lower upper
  IncludedByParts any_set any_set = Unit {0}
  IncludedByParts (set_of lower) any_set = Unit {0}
  IncludedByParts (set_of lower) (set_of upper) = IncludedByParts lower upper
  IncludedByParts (record_of lower openness) (record_of upper upper_openness) =
      OpennessBelow openness upper_openness × NamesBelow Permissive upper_openness lower upper
      × FieldsIncluded openness lower upper
  IncludedByParts (extension_of lower) (extension_of upper) = lower ≡ upper
  IncludedByParts _ _ = ⊥

  -- each attribute of the upper record is one of the lower, with a type that is included and a flag
  -- that fits, or is never there in a record of the lower type
  pub FieldsIncluded : OpenTag → Fields → Fields → Type 0
  FieldsIncluded openness lower end = Unit {0}
  FieldsIncluded openness lower (field name required ty upper) =
      (((own_required : Bool)
      × (own : Ty)
      × HasField lower name own_required own
      × FlagsBelow Permissive own_required required
      × IncludedByParts own ty)
      ⊎ IsNeverThere openness lower name required)
      × FieldsIncluded openness lower upper
