use Rattle.std.specs.Prelude.{◌≡◌, ◌≢◌, ◌⊎◌, Bool, length, Contains}
use Rattle.cedar_ast.specs.Text.{Text}
use Rattle.cedar_ast.specs.declared.validation_mode.ValidationMode.{ValidationMode}
use Rattle.cedar_ast.specs.declared.validation_mode.ValidationMode.TheVariants.{Strict}
use Rattle.cedar_type_rules.specs.Below.{HasField}
use Rattle.cedar_type_rules.specs.Fields.{field_names}
use Rattle.cedar_type_rules.specs.OwnBound.{HaveOwnBound}
use Rattle.cedar_type_rules.specs.Ty.{Ty, any_entity, union_of, set_of, record_of, Fields, end, field}
use Rattle.cedar_type_rules.specs.declared.join_error.LubHelp.{LubHelp}
use Rattle.cedar_type_rules.specs.declared.join_error.LubHelp.TheVariants as help

-- the help where a record lacks a name
abbrev pub IsWidthHelp : Fields → Text → LubHelp → Type 0
IsWidthHelp fields name given = ¬ Contains (field_names fields) name × (given ≡ help.RecordWidth)

-- the help where the types of two attributes join and their flags differ
abbrev pub IsFlagHelp : Bool × Ty → Bool × Ty → LubHelp → Type 0
IsFlagHelp a b given = HaveOwnBound Strict a.1 b.1 × (a.0 ≢ b.0) × (given ≡ help.AttributeQualifier)

abbrev mutual
  -- a help may be given for two types: that for an entity and a record, in strict mode those for
  -- two entities and for two records, for two sets one for their elements, and else none
  pub IsHelp : ValidationMode → Ty → Ty → LubHelp → Type 0
  IsHelp mode any_entity (record_of b openness) given = given ≡ help.EntityRecord
  IsHelp mode (union_of a) (record_of b openness) given = given ≡ help.EntityRecord
  IsHelp mode (record_of a openness) any_entity given = given ≡ help.EntityRecord
  IsHelp mode (record_of a openness) (union_of b) given = given ≡ help.EntityRecord
  IsHelp Strict any_entity (union_of b) given = given ≡ help.EntityType
  IsHelp Strict (union_of a) any_entity given = given ≡ help.EntityType
  IsHelp Strict (union_of a) (union_of b) given = given ≡ help.EntityType
  IsHelp Strict (record_of a openness) (record_of b other_openness) given =
      ((length (field_names a) ≢ length (field_names b)) × (given ≡ help.RecordWidth))
      ⊎ ((length (field_names a) ≡ length (field_names b)) × IsHelpAtName a b given)
  IsHelp mode (set_of a) (set_of b) given = IsHelp mode a b given
  IsHelp mode a b given = given ≡ help.None

  -- a help is found at a name of the one record: the other lacks it, or the flags differ, or the
  -- types don't join
  pub IsHelpAtName : Fields → Fields → LubHelp → Type 0
  IsHelpAtName end b given = ⊥
  IsHelpAtName (field name required ty rest) b given =
      IsWidthHelp b name given
      ⊎ ((flag : Bool) × (of : Ty) × HasField b name flag of
      × (IsFlagHelp (required, ty) (flag, of) given
      ⊎ (¬ HaveOwnBound Strict ty of × IsHelp Strict ty of given)))
      ⊎ IsHelpAtName rest b given
