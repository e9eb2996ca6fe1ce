use Rattle.std.specs.Option.{option_map, option_zip}
use Rattle.std.specs.Prelude.{◌≡◌, ◌↔◌, Option, Some, None}
use Rattle.cedar_ast.specs.CoreTy.{CoreTy, CoreFields, core_truth, core_long, core_text, core_set, core_empty_set, core_record, core_entity, core_extension, core_end, core_field}
use Rattle.cedar_type_rules.specs.EntityUnion.{only_name}
use Rattle.cedar_type_rules.specs.OpenTag.{is_open}
use Rattle.cedar_type_rules.specs.StandsIn.{StandsIn}
use Rattle.cedar_type_rules.specs.Ty.{Ty, never, truth, long, text, any_entity, union_of, any_set, set_of, record_of, extension_of, Fields, end, field}

abbrev mutual
  -- the core type of a type, case by case; some types have none
  pub core_of : Ty → Option CoreTy
  core_of never = None
  core_of (truth known) = Some core_truth
  core_of long = Some core_long
  core_of text = Some core_text
  core_of any_entity = None
  core_of (union_of names) = option_map core_entity (only_name names)
  core_of any_set = Some core_empty_set
  core_of (set_of ty) = option_map core_set (core_of ty)
  core_of (record_of fields openness) =
      option_map (λ core. core_record core (is_open openness)) (core_fields fields)
  core_of (extension_of name) = Some (core_extension name)

  -- the attributes with the core types of their types, if each has one
  pub core_fields : Fields → Option CoreFields
  core_fields end = Some core_end
  core_fields (field name required ty rest) =
      option_map (λ both. core_field name required both.0 both.1)
      (option_zip (core_of ty) (core_fields rest))

-- types that have no core type: `Never`, any entity, and a union of other than one entity type
abbrev pub LacksCore : Ty → Type 0
LacksCore never = Unit {0}
LacksCore any_entity = Unit {0}
LacksCore (union_of names) = only_name names ≡ None
LacksCore _ = ⊥

-- a type has no core type exactly where one that lacks it stands in it
abbrev pub CoreIsLackedExactly : Type 0
CoreIsLackedExactly = (ty : Ty) → (core_of ty ≡ None) ↔ StandsIn LacksCore ty
