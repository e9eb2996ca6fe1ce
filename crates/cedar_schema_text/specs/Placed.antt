-- What a fragment says, and where each part of it was written, as plain data. The place None is one
-- that isn't written.
use Rattle.std.specs.Prelude.{Bool, List, [], ◌∷◌, Option}
use Rattle.cedar_ast.specs.Words.{PlainName, Text}
use Rattle.cedar_ast.specs.declared.loc.Loc.{Loc}

-- a name with its place
pub record NameAt : Type 0 where
  pub name : PlainName
  pub loc : Option Loc

mutual
  -- a type with its place: that of a common type's name; that of a name of a common type or an
  -- entity type; sets of elements of one type; records of some attributes, which may permit others;
  -- or a type that has another form
  pub data TypeAt : Type 0 where
    common_type : NameAt → Option Loc → TypeAt
    either_type : NameAt → Option Loc → TypeAt
    set_type : TypeAt → Option Loc → TypeAt
    record_type : FieldsAt → Bool → Option Loc → TypeAt
    other_type : TypeAt

  -- for each attribute its name, its type, whether it is required, and its place
  pub data FieldsAt : Type 0 where
    no_field : FieldsAt
    field : Text → TypeAt → Bool → Option Loc → FieldsAt → FieldsAt

-- an attribute by itself
pub record AttributeAt : Type 0 where
  pub ty : TypeAt
  pub required : Bool
  pub loc : Option Loc

-- attributes, each under its name
abbrev pub fields_from : List (Text × AttributeAt) → FieldsAt
fields_from [] = no_field
fields_from (entry ∷ more) =
    field entry.0 entry.1.ty entry.1.required entry.1.loc (fields_from more)

-- what is declared of an entity type: its ids; or its parents, its shape and the type of its tags
pub data KindAt : Type 0 where
  enumerated : List Text → KindAt
  standard_kind : List NameAt → TypeAt → Option TypeAt → KindAt

-- the declaration of an entity type
pub record EntityTypeAt : Type 0 where
  pub kind : KindAt
  pub external : Bool
  pub loc : Option Loc

-- a parent of an action
pub record ParentAt : Type 0 where
  pub id : Text
  pub ty : Option NameAt
  pub loc : Option Loc

-- the requests that an action is for
pub record RequestsAt : Type 0 where
  pub principals : List NameAt
  pub resources : List NameAt
  pub context : TypeAt

-- the declaration of an action, with its place and that of its name
pub record ActionAt : Type 0 where
  pub has_attributes : Bool
  pub applies_to : Option RequestsAt
  pub member_of : Option (List ParentAt)
  pub external : Bool
  pub loc : Option Loc
  pub defn_loc : Option Loc

-- the declaration of a common type
pub record CommonTypeAt : Type 0 where
  pub ty : TypeAt
  pub loc : Option Loc

-- what is declared in a namespace, each kind under its ids, in the order of these
pub record DefinitionAt : Type 0 where
  pub common_types : List (Text × CommonTypeAt)
  pub entity_types : List (Text × EntityTypeAt)
  pub actions : List (Text × ActionAt)
  pub loc : Option Loc

-- namespaces in the order of their names; None is the empty one
abbrev pub FragmentAt : Type 0
FragmentAt = List (Option NameAt × DefinitionAt)
