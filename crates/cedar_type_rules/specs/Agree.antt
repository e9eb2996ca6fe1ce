use Rattle.std.specs.Prelude.{◌≡◌, Bool}
use Rattle.cedar_ast.specs.Lists.{Included}
use Rattle.cedar_type_rules.specs.Below.{HasField}
use Rattle.cedar_type_rules.specs.Fields.{field_names}
use Rattle.cedar_type_rules.specs.Ty.{Ty, any_entity, union_of, set_of, record_of, Fields, end, field}

abbrev mutual
  -- two types agree: at each place that both have, two records have the same names and flags, and
  -- two entities are of the same kind; nothing is compared with `Never` as the lower or with the
  -- any-set as the upper
  pub Agree : Ty → Ty → Type 0
  Agree any_entity any_entity = Unit {0}
  Agree any_entity (union_of upper) = ⊥
  Agree (union_of lower) any_entity = ⊥
  Agree (union_of lower) (union_of upper) = lower ≡ upper
  Agree (set_of lower) (set_of upper) = Agree lower upper
  Agree (record_of lower openness) (record_of upper upper_openness) =
      Included (field_names lower) (field_names upper)
      × Included (field_names upper) (field_names lower)
      × FieldsAgree lower upper
  Agree _ _ = Unit {0}

  -- the attributes of a name that both records have are required alike, and their types agree
  pub FieldsAgree : Fields → Fields → Type 0
  FieldsAgree lower end = Unit {0}
  FieldsAgree lower (field name required ty upper) =
      ((own_required : Bool) (own : Ty) → HasField lower name own_required own
      → (own_required ≡ required) × Agree own ty)
      × FieldsAgree lower upper
