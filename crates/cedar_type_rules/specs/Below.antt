use Rattle.std.specs.Prelude.{◌≡◌, ◌⊎◌, Bool, IsTrue}
use Rattle.cedar_ast.specs.Words.{Included, Text}
use Rattle.cedar_ast.specs.declared.validation_mode.ValidationMode.{ValidationMode}
use Rattle.cedar_ast.specs.declared.validation_mode.ValidationMode.TheVariants.{Strict, Permissive}
use Rattle.cedar_type_rules.specs.Fields.{field_names}
use Rattle.cedar_type_rules.specs.Ty.{Ty, never, truth, long, text, any_entity, union_of, any_set, set_of, record_of, extension_of, Fields, end, field}
use Rattle.cedar_type_rules.specs.declared.bool_type.BoolType.TheVariants.{AnyBool}
use Rattle.cedar_type_rules.specs.declared.open_tag.OpenTag.{OpenTag}
use Rattle.cedar_type_rules.specs.declared.open_tag.OpenTag.TheVariants.{OpenAttributes, ClosedAttributes}

-- one of the attributes has that name, that flag and that type
abbrev pub HasField : Fields → Text → Bool → Ty → Type 0
HasField end name required ty = ⊥
HasField (field other flag of rest) name required ty =
    ((other ≡ name) × (flag ≡ required) × (of ≡ ty)) ⊎ HasField rest name required ty

-- the flags of an attribute: they are equal in strict mode, and in permissive mode the lower
-- requires what the upper does
abbrev pub FlagsBelow : ValidationMode → Bool → Bool → Type 0
FlagsBelow Strict lower upper = lower ≡ upper
FlagsBelow Permissive lower upper = IsTrue upper → IsTrue lower

-- an open record isn't below a closed one
abbrev pub OpennessBelow : OpenTag → OpenTag → Type 0
OpennessBelow OpenAttributes ClosedAttributes = ⊥
OpennessBelow _ _ = Unit {0}

-- the lower record has no further name, but where the upper is open and the mode permissive
abbrev pub NamesBelow : ValidationMode → OpenTag → Fields → Fields → Type 0
NamesBelow Permissive OpenAttributes lower upper = Unit {0}
NamesBelow _ _ lower upper = Included (field_names lower) (field_names upper)

abbrev mutual
  -- one type is below another: `Never` below all, a truth value below any, a set below a set of
  -- more and below the any-set, a record below one of which it has each attribute, with a type
  -- below and a flag that fits, and no further name but where that one is open and the mode
  -- permissive, an entity below a union with its types, and each type below itself
  pub Below : ValidationMode → Ty → Ty → Type 0
  Below mode never upper = Unit {0}
  Below mode (truth lower) (truth upper) = (upper ≡ AnyBool) ⊎ (lower ≡ upper)
  Below mode long long = Unit {0}
  Below mode text text = Unit {0}
  Below mode any_entity any_entity = Unit {0}
  Below Permissive (union_of lower) any_entity = Unit {0}
  Below Permissive (union_of lower) (union_of upper) = Included lower upper
  Below Strict (union_of lower) (union_of upper) = lower ≡ upper
  Below mode any_set any_set = Unit {0}
  Below mode (set_of lower) any_set = Unit {0}
  Below mode (set_of lower) (set_of upper) = Below mode lower upper
  Below mode (record_of lower openness) (record_of upper upper_openness) =
      OpennessBelow openness upper_openness × NamesBelow mode upper_openness lower upper
      × FieldsBelow mode lower upper
  Below mode (extension_of lower) (extension_of upper) = lower ≡ upper
  Below _ _ _ = ⊥

  -- the lower record has each attribute of the upper, with a type below and a flag that fits
  pub FieldsBelow : ValidationMode → Fields → Fields → Type 0
  FieldsBelow mode lower end = Unit {0}
  FieldsBelow mode lower (field name required ty upper) =
      ((own_required : Bool)
      × (own : Ty)
      × HasField lower name own_required own
      × FlagsBelow mode own_required required
      × Below mode own ty)
      × FieldsBelow mode lower upper

-- one attribute is below another: its flag fits and its type is below
abbrev pub AttributeBelow : ValidationMode → Bool × Ty → Bool × Ty → Type 0
AttributeBelow mode lower upper = FlagsBelow mode lower.0 upper.0 × Below mode lower.1 upper.1
