-- What may no longer stand above entities.
use Rattle.std.specs.BTreeMap.{BTreeMap, get_by}
use Rattle.std.specs.Option.{option_map}
use Rattle.std.specs.Prelude.{◌⊎◌, List, Option, Some, None, Contains}
use Rattle.std.specs.declared.cmp.Ordering.{Ordering}
use Rattle.cedar_ast.specs.Words.{PlainName, PlainUid, Text, name_cmp, type_name, uid_cmp, uid_of}
use Rattle.cedar_ast.specs.declared.entity_type.EntityType.{EntityType}
use Rattle.cedar_ast.specs.declared.entity_uid.EntityUID.{EntityUID}
use Rattle.cedar_compare.specs.Choices.{MayHave, kind_choices}
use Rattle.cedar_compare.specs.Difference.{IsActionCause, PlainCause}
use Rattle.cedar_entities.specs.Entities.{MayStandAbove}
use Rattle.cedar_schema_semantics.specs.Words.{DefinesAction, ListsDescendantAction, PlainSchema, SchemaEntityType}

-- what is kept under the name that a key stands for
abbrev pub kept_under : {K P : Type 0} → (P → P → Ordering) → (K → P) → BTreeMap K EntityUID → K
    → Option PlainUid
kept_under cmp name kept key =
    option_map uid_of (get_by (λ other. cmp (name key) (name other)) kept)

-- what is kept under the name of an entity type
abbrev pub upper_at : BTreeMap EntityType EntityUID → EntityType → Option PlainUid
upper_at = kept_under name_cmp type_name

-- what is kept under the uid of an action
abbrev pub action_upper_at : BTreeMap EntityUID EntityUID → EntityUID → Option PlainUid
action_upper_at = kept_under uid_cmp uid_of

-- what is found above a node, but for what is left, where it is given which uids stand above it,
-- which still do and which are lost there: one that is lost, or that each that stands there still
-- does
abbrev pub IsUpperSoFar : {P : Type 0} → (P → PlainUid → Type 0) → (P → PlainUid → Type 0)
    → (P → PlainUid → Type 0) → (PlainUid → Type 0) → P → Option PlainUid → Type 0
IsUpperSoFar IsAbove IsStill IsLost IsLeft lower None = (upper : PlainUid)
    → IsAbove lower upper → IsLeft upper ⊎ IsStill lower upper
IsUpperSoFar IsAbove IsStill IsLost IsLeft lower (Some upper) = IsLost lower upper

-- under each key there stands what is found above the node of its name, but for what is left
abbrev pub AreUppersSoFar : {K P : Type 0} → (P → P → Ordering) → (K → P)
    → (P → PlainUid → Type 0) → (P → PlainUid → Type 0) → (P → PlainUid → Type 0)
    → (P → PlainUid → Type 0) → BTreeMap K EntityUID → Type 0
AreUppersSoFar {K} cmp name IsAbove IsStill IsLost IsLeft kept = (key : K)
    → IsUpperSoFar IsAbove IsStill IsLost (IsLeft (name key)) (name key)
    (kept_under cmp name kept key)

-- what becomes of the uids of an entity type that may stand above others, where these are its
-- choices, if there are some: the new schema's entity type of the name, which may have all its ids,
-- or that none there may have the one id
abbrev pub IsAncestorKept : PlainSchema → PlainName → Option (List Text) → Text
    → Option SchemaEntityType → Type 0
IsAncestorKept new name choices id None = (it : SchemaEntityType)
    → Contains new.entity_types (name, it) → ¬ MayHave (kind_choices it.kind) id
IsAncestorKept new name choices id (Some it) = Contains new.entity_types (name, it)
    × ((other : Text) → MayHave choices other → MayHave (kind_choices it.kind) other)

-- an entity type is there and lists the name among its descendants
abbrev pub IsListedBy : Option SchemaEntityType → PlainName → Type 0
IsListedBy None lower = ⊥
IsListedBy (Some it) lower = Contains it.descendants lower

-- a uid may stand above the entities of a type in the old schema, and not in the new
abbrev pub IsAncestorLost : PlainSchema → PlainSchema → PlainName → PlainUid → Type 0
IsAncestorLost old new name upper =
    MayStandAbove old name upper × ¬ MayStandAbove new name upper

-- what is found above the entities of a type, but for uids that are left: one that may stand there
-- in the old schema and not in the new, or that there is none
abbrev pub IsAncestorSoFar : PlainSchema → PlainSchema → (PlainUid → Type 0) → PlainName
    → Option PlainUid → Type 0
IsAncestorSoFar old new =
    IsUpperSoFar (MayStandAbove old) (MayStandAbove new) (IsAncestorLost old new)

-- for each entity type there stands what is found above it, but for what is left
abbrev pub AreAncestorsSoFar : PlainSchema → PlainSchema → (PlainName → PlainUid → Type 0)
    → BTreeMap EntityType EntityUID → Type 0
AreAncestorsSoFar old new = AreUppersSoFar name_cmp type_name
    (MayStandAbove old) (MayStandAbove new) (IsAncestorLost old new)

-- for each entity type there stands what is found above it, of whatever may stand there
abbrev pub AreAncestorsLost : PlainSchema → PlainSchema → BTreeMap EntityType EntityUID → Type 0
AreAncestorsLost old new = AreAncestorsSoFar old new (λ name upper. ⊥)

-- one of two schemas alone lists the one action below the other
abbrev pub ListsApart : PlainSchema → PlainSchema → PlainUid → PlainUid → Type 0
ListsApart old new lower upper =
    (ListsDescendantAction old lower upper × ¬ ListsDescendantAction new lower upper)
    ⊎ (ListsDescendantAction new lower upper × ¬ ListsDescendantAction old lower upper)

-- what is found above an action, but for what is left: an action that one of two schemas alone
-- lists above it, or that the other lists each that the one does
abbrev pub IsActionAncestorSoFar : PlainSchema → PlainSchema → (PlainUid → Type 0) → PlainUid
    → Option PlainUid → Type 0
IsActionAncestorSoFar one other =
    IsUpperSoFar (ListsDescendantAction one) (ListsDescendantAction other) (ListsApart one other)

-- for each action there stands what is found above it, but for what is left
abbrev pub AreActionAncestorsSoFar : PlainSchema → PlainSchema → (PlainUid → PlainUid → Type 0)
    → BTreeMap EntityUID EntityUID → Type 0
AreActionAncestorsSoFar one other = AreUppersSoFar uid_cmp uid_of
    (ListsDescendantAction one) (ListsDescendantAction other) (ListsApart one other)

-- what is found of an action: why its entity is lost, or that the new schema defines it and both
-- list the same above it
abbrev pub IsActionAnswer : PlainSchema → PlainSchema → PlainUid → Option PlainCause → Type 0
IsActionAnswer old new uid None = DefinesAction new uid
    × ((upper : PlainUid) → ListsDescendantAction old uid upper
    → ListsDescendantAction new uid upper)
    × ((upper : PlainUid) → ListsDescendantAction new uid upper
    → ListsDescendantAction old uid upper)
IsActionAnswer old new uid (Some cause) = IsActionCause old new uid cause

-- for each action there stands what is found above it: an action that one of two schemas alone
-- lists above it, or that both list the same
abbrev pub AreActionAncestors : PlainSchema → PlainSchema → BTreeMap EntityUID EntityUID → Type 0
AreActionAncestors old new ancestors =
    AreActionAncestorsSoFar old new (λ uid upper. ⊥) ancestors
    × AreActionAncestorsSoFar new old (λ uid upper. ⊥) ancestors
