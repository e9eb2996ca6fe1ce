use Rattle.std.specs.Prelude.{◌≡◌, ◌⊎◌, Bool, true, if◌then◌else◌, Option, Some, None}
use Rattle.std.specs.Str.{bytes_eq}
use Rattle.cedar_ast.specs.Words.{AreEntries, Entries, IsValue, NamesListed, Text, Tree, entry_at, entry_names, map_value}
use Rattle.cedar_ast.specs.declared.extension.Extensions.{Extensions}
use Rattle.cedar_counterexample.specs.Counterexample.{PlainStart}
use Rattle.cedar_counterexample.specs.Steps.{IsOutsideAt}
use Rattle.cedar_type_rules.specs.Words.{Fields, FieldsIncluded, Has, HasField, IncludedByParts, Ty, ValuesIncluded, end, field, field_names, is_open, record_of}
use Rattle.cedar_type_rules.specs.declared.open_tag.OpenTag.{OpenTag}

-- a value is put under a name: there it stands, all others stay, and real values stay real ones
pub record IsPut (name : Text) (value : Tree) (old new : Entries) : Type 0 where
  pub found : (other : Text) → entry_at other new
      ≡ (if bytes_eq other name then Some value else entry_at other old)
  pub real : AreEntries old → IsValue value → AreEntries new

-- the values of a record are filled up for some attributes: what stood there stays, each required
-- attribute whose name had none has a value, a further value is one of a required attribute's type
-- under its name, and real values stay real ones
pub record IsFilled (extensions : Extensions) (fields : Fields)
    (start whole : Entries) : Type 0 where
  pub kept : (name : Text) (value : Tree) → entry_at name start ≡ Some value
      → entry_at name whole ≡ Some value
  pub filled : (name : Text) (ty : Ty) → HasField fields name true ty
      → (value : Tree) × (entry_at name whole ≡ Some value)
  pub listed : (name : Text) (value : Tree) → entry_at name whole ≡ Some value
      → (entry_at name start ≡ Some value)
      ⊎ ((ty : Ty) × HasField fields name true ty × Has extensions value ty)
  pub real : AreEntries start → AreEntries whole

-- values from which a value of a record that another record hasn't is filled up: they are real,
-- have the types of the attributes of their names, which are listed or the record is open; what is
-- filled up from them isn't a value of the other record; and if there is such a value, the steps
-- lead to where the records part
pub record IsStart (extensions : Extensions) (lower : Fields) (openness : OpenTag) (upper : Fields)
    (upper_openness : OpenTag)
    (start : PlainStart) : Type 0 where
  pub real : AreEntries start.values
  pub fits : (name : Text) (value : Tree) (required : Bool) (ty : Ty)
      → entry_at name start.values ≡ Some value
      → HasField lower name required ty → Has extensions value ty
  pub listed : NamesListed (is_open openness) (entry_names start.values) (field_names lower)
  pub lacks : (whole : Entries) → IsFilled extensions lower start.values whole
      → ¬ Has extensions (map_value whole) (record_of upper upper_openness)
  pub leads : ¬ ValuesIncluded extensions (record_of lower openness)
      (record_of upper upper_openness)
      → IsOutsideAt extensions start.steps (record_of lower openness)
      (record_of upper upper_openness)

-- what is found for one attribute of the other record: nothing if the parts say that its values are
-- included, and else a start, whatever else the other record has
abbrev pub IsFieldStart : Extensions → Fields → OpenTag → Text → Bool → Ty → Option PlainStart
    → Type 0
IsFieldStart extensions lower openness name required ty None =
    FieldsIncluded openness lower (field name required ty end)
IsFieldStart extensions lower openness name required ty (Some start) =
    (upper : Fields) (upper_openness : OpenTag) → HasField upper name required ty
    → IsStart extensions lower openness upper upper_openness start

-- what is found for the attributes of two records: nothing if the parts say that those of the other
-- are included, and else a start
abbrev pub IsAttributeStart : Extensions → Fields → OpenTag → Fields → Option PlainStart → Type 0
IsAttributeStart extensions lower openness upper None = FieldsIncluded openness lower upper
IsAttributeStart extensions lower openness upper (Some start) =
    (upper_openness : OpenTag) → IsStart extensions lower openness upper upper_openness start

-- what is found for two records: nothing if the parts say that each value of the one is one of the
-- other, and else a start
abbrev pub IsRecordStart : Extensions → Fields → OpenTag → Fields → OpenTag → Option PlainStart
    → Type 0
IsRecordStart extensions lower openness upper upper_openness None =
    IncludedByParts (record_of lower openness) (record_of upper upper_openness)
IsRecordStart extensions lower openness upper upper_openness (Some start) =
    IsStart extensions lower openness upper upper_openness start
