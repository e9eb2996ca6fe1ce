use Rattle.std.specs.Prelude.{◌≡◌, ◌⊎◌, Bool, true, false, Contains, Option, Some, None}
use Rattle.cedar_ast.specs.Words.{EachTree, Entries, EntryFits, Gives, IsUnknown, NamesListed, PlainName, PlainUid, SomeTree, Tree, Trees, call_value, entry_at, entry_names, map_value, number_value, set_value, text_value, truth_value, uid_value}
use Rattle.cedar_ast.specs.declared.extension.Extensions.{Extensions}
use Rattle.cedar_type_rules.specs.Fields.{field_names}
use Rattle.cedar_type_rules.specs.OpenTag.{is_open}
use Rattle.cedar_type_rules.specs.Ty.{Ty, truth, long, text, any_entity, union_of, any_set, set_of, record_of, extension_of, Fields, end, field}
use Rattle.cedar_type_rules.specs.declared.bool_type.BoolType.{BoolType}
use Rattle.cedar_type_rules.specs.declared.bool_type.BoolType.TheVariants as bool_type

-- a truth value is as is known
abbrev pub HasTruth : Bool → BoolType → Type 0
HasTruth value bool_type.AnyBool = Unit {0}
HasTruth value bool_type.True = value ≡ true
HasTruth value bool_type.False = value ≡ false

-- a uid's entity is of a type: of any, or of one of a union
abbrev pub HasUid : PlainUid → Ty → Type 0
HasUid uid any_entity = Unit {0}
HasUid uid (union_of names) = Contains names uid.ty
HasUid _ _ = ⊥

abbrev mutual
  -- a value has a type, where it is given which calls have which extension types
  pub HasBy : (PlainName → Trees → PlainName → Type 0) → Tree → Ty → Type 0
  HasBy calls (truth_value value) (truth known) = HasTruth value known
  HasBy calls (number_value value) long = Unit {0}
  HasBy calls (text_value value) text = Unit {0}
  HasBy calls (uid_value uid) ty = HasUid uid ty
  HasBy calls (set_value values) any_set = Unit {0}
  HasBy calls (set_value values) (set_of ty) = EachTree (λ value. HasBy calls value ty) values
  HasBy calls (map_value values) (record_of fields openness) =
      NamesListed (is_open openness) (entry_names values) (field_names fields)
      × HasFieldsBy calls values fields
  HasBy calls (call_value function args) (extension_of name) = calls function args name
  HasBy _ _ _ = ⊥

  -- the listed attributes have their types where they are there, and those that are required are
  -- there
  pub HasFieldsBy : (PlainName → Trees → PlainName → Type 0) → Entries → Fields → Type 0
  HasFieldsBy calls values end = Unit {0}
  HasFieldsBy calls values (field name required ty rest) =
      EntryFits (λ value. HasBy calls value ty) required (entry_at name values)
      × HasFieldsBy calls values rest

-- a value has a type: a call has the extension type that its function returns, if its arguments fit
abbrev pub Has : Extensions → Tree → Ty → Type 0
Has extensions = HasBy (Gives extensions)

-- a call gives a value of an extension type, or no function has its name
abbrev pub MayGive : Extensions → PlainName → Trees → PlainName → Type 0
MayGive extensions function args name =
    Gives extensions function args name ⊎ IsUnknown extensions function

-- a value has a type, if each call of an unknown function is given every extension type
abbrev pub MayHave : Extensions → Tree → Ty → Type 0
MayHave extensions = HasBy (MayGive extensions)

-- a fact holds of the value, if there is one
abbrev pub SomeEntry : (Tree → Type 0) → Option Tree → Type 0
SomeEntry P None = ⊥
SomeEntry P (Some value) = P value

abbrev mutual
  -- a value meets an unknown function at a type: a call of it stands where an extension type is
  -- expected
  pub Meets : Extensions → PlainName → Tree → Ty → Type 0
  Meets extensions unknown (call_value function args) (extension_of name) =
      (function ≡ unknown) × IsUnknown extensions unknown
  Meets extensions unknown (set_value values) (set_of ty) =
      SomeTree (λ value. Meets extensions unknown value ty) values
  Meets extensions unknown (map_value values) (record_of fields openness) =
      FieldsMeet extensions unknown values fields
  Meets _ _ _ _ = ⊥

  -- the value of a listed attribute meets an unknown function at the attribute's type
  pub FieldsMeet : Extensions → PlainName → Entries → Fields → Type 0
  FieldsMeet extensions unknown values end = ⊥
  FieldsMeet extensions unknown values (field name required ty rest) =
      SomeEntry (λ value. Meets extensions unknown value ty) (entry_at name values)
      ⊎ FieldsMeet extensions unknown values rest
