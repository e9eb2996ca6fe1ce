-- Unions of entity types, one entity type after another.
use Rattle.std.proofs.Common.{◌≡◌, ◌<◌, ◌+◌, ℕ, ◌∷◌, ◌++◌, [], List, length, map, take, get_or, ap, sym, ◌∙◌, Contains, inl, inr}
use Rattle.std.proofs.lemmas.List.{map_more, get_or-map, length-map}
use Rattle.std.proofs.lemmas.List.Elements.{Contains-push_cases}
use Rattle.std.specs.List.Sorted.{IsStrictlySortedBy}
use Rattle.cedar_types.specs.Words.{AreDisjoint, EntityType, PlainName, name_cmp, type_name}

-- a single name is in order
pub IsStrictlySortedBy-one : (name : PlainName) → IsStrictlySortedBy name_cmp (name ∷ [])
unfolding IsStrictlySortedBy
IsStrictlySortedBy-one name = (tt, tt)

-- one more name that isn't among the others keeps the lists apart
pub AreDisjoint-push : (names others : List PlainName) (name : PlainName) → AreDisjoint names others
    → ¬ Contains others name → AreDisjoint (names ++ name ∷ []) others
AreDisjoint-push names others name apart absent each among also =
    elim (Contains-push_cases names name each among) [ inl before ↦ apart each before also | inr same ↦ absent (rw same also) ]

-- one more entity type that isn't among the others keeps the lists apart
pub AreDisjoint-more : (types : List EntityType) (others : List PlainName) (i : ℕ) (ty : EntityType) → i < length types
    → ty ≡ get_or types i ty → AreDisjoint (map type_name (take i types)) others → ¬ Contains others (type_name ty)
    → AreDisjoint (map type_name (take (i + 1) types)) others
AreDisjoint-more types others i ty below is apart absent =
    rw (ap (λ one. map type_name (take i types) ++ type_name one ∷ []) is ∙ sym (map_more type_name types i ty below)) at (AreDisjoint-push (map type_name (take i types)) others (type_name ty) apart absent)

-- an entity type at a place of the list is among its names
pub Contains-names : (types : List EntityType) (i : ℕ) (ty : EntityType) → i < length types → ty ≡ get_or types i ty
    → Contains (map type_name types) (type_name ty)
Contains-names types i ty below is =
    (i, rw length-map below, get_or-map type_name types i ty (type_name ty) below ∙ ap type_name (sym is))
