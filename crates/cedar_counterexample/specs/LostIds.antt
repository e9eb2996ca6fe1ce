-- Values that name a uid which isn't kept.
use Rattle.std.specs.Prelude.{◌≡◌, Bool, List, [], ◌∷◌, Option, Some, None, Contains}
use Rattle.cedar_ast.specs.Words.{AreEntries, Entries, NamesListed, PlainName, PlainUid, Text, Tree, entry_at, entry_names, uid_of}
use Rattle.cedar_ast.specs.declared.extension.Extensions.{Extensions}
use Rattle.cedar_counterexample.specs.Counterexample.{IsValueOf, PlainFound, PlainStart, found_of, record_found, start_of}
use Rattle.cedar_counterexample.specs.Steps.{PlainStep, attribute_step, element_step}
use Rattle.cedar_counterexample.specs.declared.naming.Naming.{Naming}
use Rattle.cedar_counterexample.specs.declared.naming.NamingStart.{NamingStart}
use Rattle.cedar_entities.specs.Words.{FieldsKeepIds, KeepsIds, KeepsUids, NamesSome}
use Rattle.cedar_type_rules.specs.Words.{Fields, Has, HasField, Ty, any_entity, any_set, field_names, is_open, record_of, set_of, union_of}
use Rattle.cedar_type_rules.specs.declared.open_tag.OpenTag.{OpenTag}
use Rattle.cedar_type_rules.specs.declared.open_tag.OpenTag.TheVariants.{OpenAttributes}

-- a uid that the one fact holds of and the other doesn't
abbrev pub IsLostUid : (PlainUid → Type 0) → (PlainUid → Type 0) → PlainUid → Type 0
IsLostUid Old New uid = Old uid × ¬ New uid

-- such a one of an entity type
abbrev pub IsLostUidOf : (PlainUid → Type 0) → (PlainUid → Type 0) → PlainName → PlainUid → Type 0
IsLostUidOf Old New name uid = (uid.ty ≡ name) × IsLostUid Old New uid

-- the values of a type may name a uid by themselves: as an entity of it, or in a set or a record of
-- which the type says nothing more
abbrev pub MayBeNamedHere : Ty → PlainUid → Type 0
MayBeNamedHere any_entity uid = Unit {0}
MayBeNamedHere (union_of names) uid = Contains names uid.ty
MayBeNamedHere any_set uid = Unit {0}
MayBeNamedHere (record_of fields openness) uid = openness ≡ OpenAttributes
MayBeNamedHere _ uid = ⊥

-- steps lead down a type to a part whose values may name a uid by themselves
abbrev pub MayBeNamedAt : List PlainStep → Ty → PlainUid → Type 0
MayBeNamedAt [] ty uid = MayBeNamedHere ty uid
MayBeNamedAt (element_step ∷ steps) (set_of ty) uid = MayBeNamedAt steps ty uid
MayBeNamedAt (attribute_step name ∷ steps) (record_of fields openness) uid =
    (required : Bool) × (ty : Ty) × HasField fields name required ty × MayBeNamedAt steps ty uid
MayBeNamedAt _ _ uid = ⊥

-- a value that names a uid, with the steps to where it does
pub record PlainNaming : Type 0 where
  pub found : PlainFound
  pub uid : PlainUid

-- what a value that names a uid stands for
abbrev pub naming_of : Naming → PlainNaming
naming_of it = record { found = found_of it.found; uid = uid_of it.uid }

-- the same of the values of a record
abbrev pub record_naming : NamingStart → PlainNaming
record_naming it = record { found = record_found it.start; uid = uid_of it.uid }

-- a value of a type names a uid that is lost, and the steps lead to where it may
pub record IsNaming (extensions : Extensions) (Old New : PlainUid → Type 0) (ty : Ty)
    (it : PlainNaming) : Type 0 where
  pub sample : IsValueOf extensions ty it.found.value
  pub names : NamesSome (λ uid. uid ≡ it.uid) it.found.value
  pub lost : IsLostUid Old New it.uid
  pub leads : MayBeNamedAt it.found.steps ty it.uid

-- what is found of a type: that the ids which its values may name are kept, or a value that names
-- one which is lost
abbrev pub IsNamingAnswer : Extensions → (PlainUid → Type 0) → (PlainUid → Type 0) → Ty
    → Option PlainNaming → Type 0
IsNamingAnswer extensions Old New ty None = KeepsIds Old New ty
IsNamingAnswer extensions Old New ty (Some it) = IsNaming extensions Old New ty it

-- a start of a value of a record, with a uid that it names
pub record PlainNamingStart : Type 0 where
  pub start : PlainStart
  pub uid : PlainUid

-- what a start stands for
abbrev pub naming_start_of : NamingStart → PlainNamingStart
naming_start_of it = record { start = start_of it.start; uid = uid_of it.uid }

-- values from which a value of a record is filled up that names a uid which is lost: they are real,
-- fit their attributes, are listed, and one of them names the uid
pub record IsNamingStart (extensions : Extensions) (Old New : PlainUid → Type 0) (fields : Fields)
    (openness : OpenTag)
    (it : PlainNamingStart) : Type 0 where
  pub real : AreEntries it.start.values
  pub fits : (name : Text) (value : Tree) (required : Bool) (ty : Ty)
      → entry_at name it.start.values ≡ Some value
      → HasField fields name required ty → Has extensions value ty
  pub listed : NamesListed (is_open openness) (entry_names it.start.values) (field_names fields)
  pub names : (name : Text) × (value : Tree) × (entry_at name it.start.values ≡ Some value)
      × NamesSome (λ uid. uid ≡ it.uid) value
  pub lost : IsLostUid Old New it.uid
  pub leads : MayBeNamedAt it.start.steps (record_of fields openness) it.uid

-- what is found of the attributes of a record: that the ids which they may name are kept, or a
-- start
abbrev pub IsNamingStartAnswer : Extensions → (PlainUid → Type 0) → (PlainUid → Type 0) → Fields
    → OpenTag → Option PlainNamingStart → Type 0
IsNamingStartAnswer extensions Old New fields openness None = FieldsKeepIds Old New fields
IsNamingStartAnswer extensions Old New fields openness (Some it) =
    IsNamingStart extensions Old New fields openness it

-- what is found of the names of a record that aren't listed, in the same way
abbrev pub IsOpenAnswer : Extensions → (PlainUid → Type 0) → (PlainUid → Type 0) → Fields
    → OpenTag → Option PlainNamingStart → Type 0
IsOpenAnswer extensions Old New fields openness None =
    openness ≡ OpenAttributes → KeepsUids Old New
IsOpenAnswer extensions Old New fields openness (Some it) =
    IsNamingStart extensions Old New fields openness it

-- what is found of a record: that the ids which its values may name are kept, or a start
abbrev pub IsNamingRecord : Extensions → (PlainUid → Type 0) → (PlainUid → Type 0) → Fields
    → OpenTag → Option PlainNamingStart → Type 0
IsNamingRecord extensions Old New fields openness None =
    KeepsIds Old New (record_of fields openness)
IsNamingRecord extensions Old New fields openness (Some it) =
    IsNamingStart extensions Old New fields openness it
