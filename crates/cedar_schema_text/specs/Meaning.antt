-- What the members of a text stand for (Cedar reference, "Schema format").
use Rattle.std.specs.BTreeMap.{insert_entry}
use Rattle.std.specs.List.{flat_map, fold}
use Rattle.std.specs.Option.{option_cmp, option_or}
use Rattle.std.specs.Prelude.{ℕ, ◌-◌, Bool, false, List, [], ◌∷◌, ◌++◌, length, map, take, get_or, Option, Some, None, option_map, unwrap_or}
use Rattle.std.specs.declared.cmp.Ordering.{Ordering}
use Rattle.cedar_ast.specs.Words.{PlainName, Text, name_cmp, text_cmp}
use Rattle.cedar_ast.specs.declared.loc.Loc.{Loc}
use Rattle.cedar_schema_grammar.specs.Tree.{Name, Path, Ty, named, set_of, record_of, Attributes, no_attributes, attribute, Parent, Says, principals, resources, context, Part, Applies, Body, choices, standard, Item, entity, action, common, Declaration, Member, namespace, alone}
use Rattle.cedar_schema_text.specs.Placed.{NameAt, TypeAt, common_type, either_type, set_type, record_type, no_field, AttributeAt, fields_from, KindAt, enumerated, standard_kind, EntityTypeAt, ParentAt, RequestsAt, ActionAt, CommonTypeAt, DefinitionAt, FragmentAt}

-- entries in the order of their keys, each put among those before it
abbrev pub in_order : {K V : Type 0} → (K → K → Ordering) → List (K × V) → List (K × V)
in_order cmp entries = fold (λ done entry. insert_entry cmp done entry.0 entry.1) [] entries

-- the first thing that some things give
abbrev pub first_given : {A B : Type 0} → (A → Option B) → List A → Option B
first_given f [] = None
first_given f (x ∷ xs) = option_or (f x) (first_given f xs)

-- ---- names

-- the name of which these are the ids: the last is the base name
abbrev pub name_from : List Text → PlainName
name_from ids =
    record { base = get_or ids (length ids - 1) []; path = take (length ids - 1) ids }

-- a path is a name, where it stands
abbrev pub name_meant : Path → NameAt
name_meant path = record { name = name_from path.ids; loc = Some path.loc }

-- ---- types

-- a type stands at its own place, a set where its element does
abbrev pub type_loc : Ty → Loc
type_loc (named path) = path.loc
type_loc (set_of element) = type_loc element
type_loc (record_of all loc) = loc

-- an attribute stands where its name does
abbrev pub attribute_at : Name → Bool → TypeAt → AttributeAt
attribute_at name is_required ty =
    record { ty = ty; required = is_required; loc = Some name.loc }

abbrev mutual
  -- a path is the name of a common type or an entity type; a record is closed
  pub type_meant : Ty → TypeAt
  type_meant (named path) = either_type (name_meant path) (Some path.loc)
  type_meant (set_of element) = set_type (type_meant element) (Some (type_loc element))
  type_meant (record_of all loc) =
      record_type (fields_from (in_order text_cmp (attributes_meant all))) false (Some loc)

  -- the attributes in the order of writing, each under its name
  pub attributes_meant : Attributes → List (Text × AttributeAt)
  attributes_meant no_attributes = []
  attributes_meant (attribute annotations name is_required ty more) =
      (name.text, attribute_at name is_required (type_meant ty)) ∷ attributes_meant more

-- the closed record type without attributes, which isn't written
abbrev pub empty_type : TypeAt
empty_type = record_type no_field false None

-- a type, or where none is written that without attributes
abbrev pub shape_meant : Option Ty → TypeAt
shape_meant None = empty_type
shape_meant (Some ty) = type_meant ty

-- as a context a path is the name of a common type
abbrev pub context_type : Ty → TypeAt
context_type (named path) = common_type (name_meant path) (Some path.loc)
context_type (set_of element) = type_meant (set_of element)
context_type (record_of all loc) = type_meant (record_of all loc)

-- a context, or where none is written that without attributes
abbrev pub context_meant : Option Ty → TypeAt
context_meant None = empty_type
context_meant (Some ty) = context_type ty

-- ---- entity types

-- a body lists ids, repeats kept, or says parents, a shape and tags
abbrev pub kind_meant : Body → KindAt
kind_meant (choices texts) = enumerated (map (λ x. x.text) texts)
kind_meant (standard parents shape tags) =
    standard_kind (map name_meant parents) (shape_meant shape) (option_map type_meant tags)

-- the declaration of one entity type
pub record Entity : Type 0 where
  pub name : Name
  pub external : Bool
  pub body : Body

-- it stands where its name does
abbrev pub entity_meant : Entity → Text × EntityTypeAt
entity_meant it = (
  it.name.text,
  record {
    kind = kind_meant it.body;
    external = it.external;
    loc = Some it.name.loc;
  },
)

-- each name declares one, with the same body
abbrev pub entities_of : Item → List Entity
entities_of (entity external names body) =
    map (λ x. record { name = x; external = external; body = body }) names
entities_of (action external names parents applies) = []
entities_of (common name ty) = []

-- the entity types that are declared, in the order of writing
abbrev pub entities_in : List Declaration → List Entity
entities_in all = flat_map (λ d. entities_of d.item) all

-- ---- actions

-- a parent has the type that a path before it names
abbrev pub parent_meant : Parent → ParentAt
parent_meant it =
    record { id = it.id.text; ty = option_map name_meant it.ty; loc = Some it.loc }

-- what a part says of principals, of resources and of the context
abbrev pub principals_of : Says → Option (List Path)
principals_of (principals paths) = Some paths
principals_of (resources paths) = None
principals_of (context ty) = None

-- what a part says of resources
abbrev pub resources_of : Says → Option (List Path)
resources_of (principals paths) = None
resources_of (resources paths) = Some paths
resources_of (context ty) = None

-- what a part says of the context
abbrev pub context_of : Says → Option Ty
context_of (principals paths) = None
context_of (resources paths) = None
context_of (context ty) = Some ty

-- the first that parts say of something
abbrev pub first_said : {A : Type 0} → (Says → Option A) → List Part → Option A
first_said f parts = first_given (λ part. f part.says) parts

-- the names of some paths, or none
abbrev pub names_meant : Option (List Path) → List NameAt
names_meant paths = map name_meant (unwrap_or paths [])

-- the requests of an `appliesTo`
abbrev pub requests_meant : Applies → RequestsAt
requests_meant it =
    record {
      principals = names_meant (first_said principals_of it.parts);
      resources = names_meant (first_said resources_of it.parts);
      context = context_meant (first_said context_of it.parts);
    }

-- the declaration of one action, and its place
pub record Action : Type 0 where
  pub name : Name
  pub external : Bool
  pub parents : Option (List Parent)
  pub applies : Option Applies
  pub loc : Loc

-- its own place is that of its name
abbrev pub action_meant : Action → Text × ActionAt
action_meant it = (
  it.name.text,
  record {
    has_attributes = false;
    applies_to = option_map requests_meant it.applies;
    member_of = option_map (map parent_meant) it.parents;
    external = it.external;
    loc = Some it.name.loc;
    defn_loc = Some it.loc;
  },
)

-- each name declares one, with the same parents and requests
abbrev pub actions_of : Loc → Item → List Action
actions_of loc (entity external names body) = []
actions_of loc (action external names parents applies) =
    map (λ x. record {
      name = x;
      external = external;
      parents = parents;
      applies = applies;
      loc = loc;
    }) names
actions_of loc (common name ty) = []

-- the actions that are declared, in the order of writing
abbrev pub actions_in : List Declaration → List Action
actions_in all = flat_map (λ d. actions_of d.loc d.item) all

-- ---- common types

-- the declaration of a common type
pub record Common : Type 0 where
  pub name : Name
  pub of : Ty

-- it stands where its name does
abbrev pub common_meant : Common → Text × CommonTypeAt
common_meant it =
    (it.name.text, record { ty = type_meant it.of; loc = Some it.name.loc })

-- a declaration declares one common type at most
abbrev pub commons_of : Item → List Common
commons_of (entity external names body) = []
commons_of (action external names parents applies) = []
commons_of (common name ty) = record { name = name; of = ty } ∷ []

-- the common types that are declared, in the order of writing
abbrev pub commons_in : List Declaration → List Common
commons_in all = flat_map (λ d. commons_of d.item) all

-- ---- namespaces

-- what is declared in a namespace whose declarations stand at a place
abbrev pub definition_meant : List Declaration → Option Loc → DefinitionAt
definition_meant all loc =
    record {
      common_types = in_order text_cmp (map common_meant (commons_in all));
      entity_types = in_order text_cmp (map entity_meant (entities_in all));
      actions = in_order text_cmp (map action_meant (actions_in all));
      loc = loc;
    }

-- the block of a namespace
pub record Block : Type 0 where
  pub annotations : List Name
  pub path : Path
  pub declarations : List Declaration
  pub loc : Loc

-- the namespace of a block, and its definition
abbrev pub block_meant : Block → Option NameAt × DefinitionAt
block_meant it = (Some (name_meant it.path), definition_meant it.declarations (Some it.loc))

-- the block that a member is
abbrev pub blocks_of : Member → List Block
blocks_of (namespace annotations path declarations loc) = record {
  annotations = annotations;
  path = path;
  declarations = declarations;
  loc = loc;
} ∷ []
blocks_of (alone d) = []

-- the declaration that a member is
abbrev pub alone_of : Member → List Declaration
alone_of (namespace annotations path declarations loc) = []
alone_of (alone d) = d ∷ []

-- the blocks in the order of writing
abbrev pub blocks_in : List Member → List Block
blocks_in members = flat_map blocks_of members

-- the declarations outside of blocks
abbrev pub alone_in : List Member → List Declaration
alone_in members = flat_map alone_of members

-- the empty namespace, where anything is declared in it
abbrev pub empty_namespace : List Declaration → FragmentAt
empty_namespace [] = []
empty_namespace (d ∷ more) = (None, definition_meant (d ∷ more) None) ∷ []

-- the order of namespaces, whatever their places
abbrev pub namespace_cmp : Option NameAt → Option NameAt → Ordering
namespace_cmp a b = option_cmp (λ x y. name_cmp x.name y.name) a b

-- a definition for each block, and one for the empty namespace
abbrev pub fragment_meant : List Member → FragmentAt
fragment_meant members =
    in_order namespace_cmp
    (map block_meant (blocks_in members) ++ empty_namespace (alone_in members))
