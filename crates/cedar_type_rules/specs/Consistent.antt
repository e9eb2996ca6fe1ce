use Rattle.std.specs.Prelude.{◌≡◌, ◌⊎◌, Bool, true, false, List, Contains}
use Rattle.cedar_ast.specs.Words.{CoreFields, CoreTy, Text, core_empty_set, core_end, core_entity, core_extension, core_field, core_long, core_names, core_record, core_set, core_text, core_truth}
use Rattle.cedar_type_rules.specs.Below.{HasField}
use Rattle.cedar_type_rules.specs.Fields.{field_names}
use Rattle.cedar_type_rules.specs.Ty.{Ty, truth, long, text, any_entity, union_of, any_set, set_of, record_of, extension_of, Fields, end, field}
use Rattle.cedar_type_rules.specs.declared.open_tag.OpenTag.TheVariants.{OpenAttributes}

-- one of the attributes has that name, that flag and that core type
abbrev pub HasCoreField : CoreFields → Text → Bool → CoreTy → Type 0
HasCoreField core_end name required core = ⊥
HasCoreField (core_field other flag of rest) name required core =
    ((other ≡ name) × (flag ≡ required) × (of ≡ core)) ⊎ HasCoreField rest name required core

-- each attribute that isn't among the names is optional, or attributes beyond the names are
-- admitted
abbrev pub AreOptionalBeyond : (Text → Bool → Type 0) → List Text → Type 0 → Type 0
AreOptionalBeyond HasFlag names IsOpen =
    (name : Text) (required : Bool) → HasFlag name required → ¬ Contains names name
    → (required ≡ false) ⊎ IsOpen

abbrev mutual
  -- a type is consistent with a core type: they are of one kind, sets and records have consistent
  -- parts, and a record lacks no required attribute of the other, but where it is open
  pub IsConsistent : Ty → CoreTy → Type 0
  IsConsistent (truth known) core_truth = Unit {0}
  IsConsistent long core_long = Unit {0}
  IsConsistent text core_text = Unit {0}
  IsConsistent (set_of ty) (core_set core) = IsConsistent ty core
  IsConsistent any_set core_empty_set = Unit {0}
  IsConsistent (set_of ty) core_empty_set = Unit {0}
  IsConsistent any_entity (core_entity name) = Unit {0}
  IsConsistent (union_of names) (core_entity name) = Contains names name
  IsConsistent (extension_of own) (core_extension name) = own ≡ name
  IsConsistent (record_of fields openness) (core_record core open_attrs) =
      FieldsAreConsistent fields core
      × AreOptionalBeyond (λ name required.
      (ty : Ty) × HasField fields name required ty) (core_names core) (open_attrs ≡ true)
      × AreOptionalBeyond (λ name required.
      (of : CoreTy) × HasCoreField core name required of) (field_names fields)
      (openness ≡ OpenAttributes)
  IsConsistent _ _ = ⊥

  -- the attributes of a name that both have are of consistent types
  pub FieldsAreConsistent : Fields → CoreFields → Type 0
  FieldsAreConsistent end core = Unit {0}
  FieldsAreConsistent (field name required ty rest) core =
      ((flag : Bool) (of : CoreTy) → HasCoreField core name flag of → IsConsistent ty of)
      × FieldsAreConsistent rest core
