-- Inclusion between the values of two schemas.
use Rattle.std.specs.Prelude.{◌≡◌, Contains}
use Rattle.cedar_ast.specs.Words.{IsValue, PlainName, PlainUid, Tree, uid_value}
use Rattle.cedar_ast.specs.declared.extension.Extensions.{Extensions}
use Rattle.cedar_entities.specs.Exists.{Exists}
use Rattle.cedar_entities.specs.Naming.{NamesOnly}
use Rattle.cedar_schema_semantics.specs.PlainSchema.{PlainSchema}
use Rattle.cedar_type_rules.specs.Words.{Fields, Has, IncludedByParts, Ty, any_entity, any_set, end, field, record_of, set_of, union_of}
use Rattle.cedar_type_rules.specs.declared.open_tag.OpenTag.TheVariants.{OpenAttributes}

-- each value that has the one type and names only uids of which the one fact holds has the other
-- type, and names only uids of which the other fact holds
abbrev pub ValuesKept : Extensions → (PlainUid → Type 0) → (PlainUid → Type 0) → Ty → Ty → Type 0
ValuesKept extensions Old New lower upper = (value : Tree) → IsValue value
    → Has extensions value lower → NamesOnly Old value
    → Has extensions value upper × NamesOnly New value

-- each value that has the one type and names what exists in the old schema has the other type, and
-- names what exists in the new
abbrev pub IncludedBetween : Extensions → PlainSchema → Ty → PlainSchema → Ty → Type 0
IncludedBetween extensions old lower new upper =
    ValuesKept extensions (Exists old) (Exists new) lower upper

-- of each uid of the language the other fact holds where the one does
abbrev pub KeepsUids : (PlainUid → Type 0) → (PlainUid → Type 0) → Type 0
KeepsUids Old New = (uid : PlainUid) → IsValue (uid_value uid) → Old uid → New uid

-- that is so of the uids of an entity type
abbrev pub KeepsIdsOf : (PlainUid → Type 0) → (PlainUid → Type 0) → PlainName → Type 0
KeepsIdsOf Old New name = KeepsUids (λ uid. (uid.ty ≡ name) × Old uid) New

abbrev mutual
  -- the ids that values of a type may name are kept: those of each entity type that it names, and
  -- of every one where entities or sets are of any type, or a record is open
  pub KeepsIds : (PlainUid → Type 0) → (PlainUid → Type 0) → Ty → Type 0
  KeepsIds Old New any_entity = KeepsUids Old New
  KeepsIds Old New (union_of names) =
      (name : PlainName) → Contains names name → KeepsIdsOf Old New name
  KeepsIds Old New any_set = KeepsUids Old New
  KeepsIds Old New (set_of ty) = KeepsIds Old New ty
  KeepsIds Old New (record_of fields openness) =
      FieldsKeepIds Old New fields × (openness ≡ OpenAttributes → KeepsUids Old New)
  KeepsIds Old New _ = Unit {0}

  -- so are those of each attribute's type
  pub FieldsKeepIds : (PlainUid → Type 0) → (PlainUid → Type 0) → Fields → Type 0
  FieldsKeepIds Old New end = Unit {0}
  FieldsKeepIds Old New (field name required ty rest) =
      KeepsIds Old New ty × FieldsKeepIds Old New rest

-- the parts of two types say that each value of the lower that names only what the one fact holds
-- of is one of the upper, and names only what the other holds of: the values are included whatever
-- they name, and the ids that they may name are kept
pub record KeptByParts (Old New : PlainUid → Type 0) (lower upper : Ty) : Type 0 where
  pub values : IncludedByParts lower upper
  pub ids : KeepsIds Old New lower

-- a fact holds of some uid of an entity type
abbrev pub HasUidOf : (PlainUid → Type 0) → PlainName → Type 0
HasUidOf Is name = (uid : PlainUid) × (uid.ty ≡ name) × IsValue (uid_value uid) × Is uid

abbrev mutual
  -- of each entity type that a type names there is a uid of which a fact holds
  pub HasUidsIn : (PlainUid → Type 0) → Ty → Type 0
  HasUidsIn Is (union_of names) = (name : PlainName) → Contains names name → HasUidOf Is name
  HasUidsIn Is (set_of ty) = HasUidsIn Is ty
  HasUidsIn Is (record_of fields openness) = FieldsHaveUids Is fields
  HasUidsIn Is _ = Unit {0}

  -- the same of each attribute's type
  pub FieldsHaveUids : (PlainUid → Type 0) → Fields → Type 0
  FieldsHaveUids Is end = Unit {0}
  FieldsHaveUids Is (field name required ty rest) = HasUidsIn Is ty × FieldsHaveUids Is rest
