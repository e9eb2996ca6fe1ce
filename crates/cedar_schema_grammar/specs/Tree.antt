-- What a schema's text says, as plain data with places.
use Rattle.std.specs.Prelude.{ℕ, suc, max, Bool, List, [], ◌∷◌, Option, None, Some}
use Rattle.cedar_ast.specs.declared.loc.Loc.{Loc}

-- an id or a quoted text, with its place
pub record Name : Type 0 where
  pub text : List ℕ
  pub loc : Loc

-- ids with `::` between them, and their place
pub record Path : Type 0 where
  pub ids : List (List ℕ)
  pub loc : Loc

mutual
  pub data Ty : Type 0 where
    named : Path → Ty
    set_of : Ty → Ty
    record_of : Attributes → Loc → Ty

  -- for each attribute its annotations, its name, whether it is required, and its type
  pub data Attributes : Type 0 where
    no_attributes : Attributes
    attribute : List Name → Name → Bool → Ty → Attributes → Attributes

-- an attribute by itself
pub record Attribute : Type 0 where
  pub annotations : List Name
  pub name : Name
  pub is_required : Bool
  pub of : Ty

abbrev pub attributes_from : List Attribute → Attributes
attributes_from [] = no_attributes
attributes_from (a ∷ more) =
    attribute a.annotations a.name a.is_required a.of (attributes_from more)

-- a parent of an action: its id, and the type where one is written
pub record Parent : Type 0 where
  pub ty : Option Path
  pub id : Name
  pub loc : Loc

-- what a part of an `appliesTo` says; its place is that of its word
pub data Says : Type 0 where
  principals : List Path → Says
  resources : List Path → Says
  context : Ty → Says

pub record Part : Type 0 where
  pub says : Says
  pub loc : Loc

-- an `appliesTo`, from its word to its `}`
pub record Applies : Type 0 where
  pub parts : List Part
  pub loc : Loc

-- the body of an entity type: the ids of its entities; or its parents, its shape and the type of
-- its tags
pub data Body : Type 0 where
  choices : List Name → Body
  standard : List Path → Option Ty → Option Ty → Body

-- whether an entity type or an action is external, its names, and what it is
pub data Item : Type 0 where
  entity : Bool → List Name → Body → Item
  action : Bool → List Name → Option (List Parent) → Option Applies → Item
  common : Name → Ty → Item

-- a declaration, from its first word to `;`
pub record Declaration : Type 0 where
  pub annotations : List Name
  pub item : Item
  pub loc : Loc

-- a namespace, whose declarations stand from `{` to `}`, or a declaration outside of all
pub data Member : Type 0 where
  namespace : List Name → Path → List Declaration → Loc → Member
  alone : Declaration → Member

-- ---- levels

-- a path is at level 0, a set one above its element, a record one above its highest attribute
abbrev mutual
  pub level : Ty → ℕ
  level (named path) = 0
  level (set_of element) = suc (level element)
  level (record_of all loc) = suc (level_of_all all)

  pub level_of_all : Attributes → ℕ
  level_of_all no_attributes = 0
  level_of_all (attribute annotations name is_required ty more) = max (level ty) (level_of_all more)

-- the highest level of some things
abbrev pub highest : {A : Type 0} → (A → ℕ) → List A → ℕ
highest f [] = 0
highest f (x ∷ xs) = max (f x) (highest f xs)

abbrev pub level_if : Option Ty → ℕ
level_if None = 0
level_if (Some ty) = level ty

abbrev pub level_of_what : Says → ℕ
level_of_what (principals paths) = 0
level_of_what (resources paths) = 0
level_of_what (context ty) = level ty

abbrev pub level_of_part : Part → ℕ
level_of_part p = level_of_what p.says

abbrev pub level_of_applies : Option Applies → ℕ
level_of_applies None = 0
level_of_applies (Some it) = highest level_of_part it.parts

abbrev pub level_of_body : Body → ℕ
level_of_body (choices texts) = 0
level_of_body (standard parents shape tags) = max (level_if shape) (level_if tags)

abbrev pub level_of_item : Item → ℕ
level_of_item (entity external names body) = level_of_body body
level_of_item (action external names parents applies) = level_of_applies applies
level_of_item (common name ty) = level ty

abbrev pub level_of_declaration : Declaration → ℕ
level_of_declaration d = level_of_item d.item

abbrev pub level_of_member : Member → ℕ
level_of_member (namespace annotations path declarations loc) =
    highest level_of_declaration declarations
level_of_member (alone d) = level_of_declaration d
