-- What stands above and below entity types and actions of a schema.
use Rattle.std.specs.List.{list_any}
use Rattle.std.specs.Map.{lookup}
use Rattle.std.specs.Option.{option_map, unwrap_or}
use Rattle.std.specs.Ordering.{is_eq}
use Rattle.std.specs.Prelude.{◌≡◌, ◌⊎◌, Any, Bool, true, false, List, [], ◌∷◌, Contains, map}
use Rattle.cedar_ast.specs.Words.{IsActionType, PlainName, PlainUid, name_cmp, uid_cmp}
use Rattle.cedar_queries.specs.Selected.{keys_where}
use Rattle.cedar_schema_semantics.specs.PlainSchema.{SchemaAction, SchemaEntityType}

-- whether the name is one of some
abbrev pub has_name : List PlainName → PlainName → Bool
has_name names name = list_any (λ other. is_eq (name_cmp name other)) names

-- whether there is anything in a list
abbrev pub is_nonempty : {A : Type 0} → List A → Bool
is_nonempty [] = false
is_nonempty (item ∷ items) = true

-- the names of the entity types that have this one among their descendants
abbrev pub types_above : PlainName → List (PlainName × SchemaEntityType) → List PlainName
types_above name types = keys_where (λ it. has_name it.descendants name) types

-- the names of the descendants of an entity type; of one that isn't there none
abbrev pub descendants_of : PlainName → List (PlainName × SchemaEntityType) → List PlainName
descendants_of name types = unwrap_or
    (option_map (λ it. it.descendants) (lookup (λ other. is_eq (name_cmp name other)) types)) []

-- the uids of the descendants of an action; of one that isn't there none
abbrev pub action_descendants : PlainUid → List (PlainUid × SchemaAction) → List PlainUid
action_descendants uid actions =
    unwrap_or (option_map (λ it. it.descendants)
    (lookup (λ other. is_eq (uid_cmp uid other)) actions)) []

-- the uids of the actions that have descendants
abbrev pub groups : List (PlainUid × SchemaAction) → List PlainUid
groups actions = keys_where (λ it. is_nonempty it.descendants) actions

-- the action is of the one type and has a descendant of the other
abbrev pub HasBelow : PlainName → PlainName → PlainUid × SchemaAction → Type 0
HasBelow upper lower it = (it.0.ty ≡ upper) × Any (λ below. below.ty ≡ lower) it.1.descendants

-- some action of the one type has a descendant of the other
abbrev pub HasActionBelow : List (PlainUid × SchemaAction) → PlainName → PlainName → Type 0
HasActionBelow actions upper lower = Any (HasBelow upper lower) actions

-- entities of the one type may stand below entities of the other, or be among them: they are the
-- same, or the one is a descendant of the other, or some action of the other type has a descendant
-- of the one
abbrev pub MayBeIn : List (PlainName × SchemaEntityType) → List (PlainUid × SchemaAction)
    → PlainName → PlainName → Type 0
MayBeIn types actions lower upper =
    (lower ≡ upper) ⊎ (Contains (descendants_of upper types) lower
    ⊎ HasActionBelow actions upper lower)

-- the name is that of an entity type of the schema, or of a type of actions
abbrev pub IsKnownType : List (PlainName × SchemaEntityType) → PlainName → Type 0
IsKnownType types name = Contains (map (λ it. it.0) types) name ⊎ IsActionType name
