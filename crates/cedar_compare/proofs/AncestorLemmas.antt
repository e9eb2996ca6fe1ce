-- What may stand above entities of a type, and the walk over entity types.
use Rattle.std.proofs.Common.{◌≡◌, List, [], ◌∷◌, Option, Some, None, false, is_some, subst, sym, map, Contains}
use Rattle.std.specs.BTreeMap.{BTreeMap, get}
use Rattle.cedar_ast.proofs.Basics.{Contains-image}
use Rattle.cedar_ast.proofs.Names.{entity_type_ord-name_cmp}
use Rattle.cedar_ast.specs.contracts.entity_type.EntityTypeOrd.TheImpl as type_ord
use Rattle.cedar_compare.proofs.LostLemmas.{choices_of_id, id_of_choices}
use Rattle.cedar_compare.proofs.UpperLemmas.{IsLeftOf, Walk, all_left, anything_left, past_none}
use Rattle.cedar_compare.proofs.UpperLemmas as upper
use Rattle.cedar_compare.specs.Words.{AreAncestorsSoFar, EntityType, EntityUID, IsAncestorKept, IsAncestorLost, IsKeyed, IsListedBy, MayHave, MayStandAbove, PlainName, PlainSchema, PlainUid, SchemaEntityType, Text, kind_choices, name_cmp, type_name, upper_at}
use Rattle.cedar_schema_semantics.proofs.OccurrenceLemmas.{name_test}

module _ (old new : PlainSchema) (keyed : IsKeyed old) (keyed' : IsKeyed new) (name : PlainName) (it : SchemaEntityType)
    (there : Contains old.entity_types (name, it)) (id : Text) (may : MayHave (kind_choices it.kind) id) (kept : Option SchemaEntityType)
    (is_kept : IsAncestorKept new name (kind_choices it.kind) id kept) where
  -- the uid of that id
  abbrev pub the_uid : PlainUid
  the_uid = record { ty = name; eid = id }

  -- it may stand above each descendant in the old schema
  pub may_above : (lower : PlainName) → Contains it.descendants lower → MayStandAbove old lower the_uid
  may_above lower below = (it, there, below, choices_of_id it.kind id may)

  -- and may not in the new where that has no such entity type, or one that doesn't list it
  pub not_above : (lower : PlainName) → ¬ IsListedBy kept lower → ¬ MayStandAbove new lower the_uid
  not_above lower none above = cases kept is_kept none
    where
      cases : (kept : Option SchemaEntityType) → IsAncestorKept new name (kind_choices it.kind) id kept → ¬ IsListedBy kept lower → ⊥
      cases None lacks none = lacks above.0 above.1 (id_of_choices above.0.kind id above.3)
      cases (Some other) has none =
          none (subst (λ (t : SchemaEntityType). Contains t.descendants lower) (keyed'.types name above.0 other above.1 has.0) above.2)

  -- each uid of the type that may stand above a descendant still may where the new schema has one
  -- that lists it
  pub still_above : (lower : PlainName) → IsListedBy kept lower → (upper : PlainUid) → upper.ty ≡ name → MayStandAbove old lower upper
      → MayStandAbove new lower upper
  still_above lower below upper named above = cases kept is_kept below
    where
      cases : (kept : Option SchemaEntityType) → IsAncestorKept new name (kind_choices it.kind) id kept → IsListedBy kept lower
          → MayStandAbove new lower upper
      cases None lacks below = absurd below
      cases (Some other) has below =
          let same : above.0 ≡ it = keyed.types name above.0 it (subst (λ n. Contains old.entity_types (n, above.0)) named above.1) there in
          let may : MayHave (kind_choices it.kind) upper.eid =
          subst (λ (t : SchemaEntityType). MayHave (kind_choices t.kind) upper.eid) same (id_of_choices above.0.kind upper.eid above.3) in (
            other,
            subst (λ n. Contains new.entity_types (n, other)) (sym named) has.0,
            below,
            choices_of_id other.kind upper.eid (has.1 upper.eid may),
          )

  -- what may stand above a name with that type lists the name
  pub below_it : (lower : PlainName) (upper : PlainUid) → upper.ty ≡ name → MayStandAbove old lower upper → Contains it.descendants lower
  below_it lower upper named above =
      let same : above.0 ≡ it = keyed.types name above.0 it (subst (λ n. Contains old.entity_types (n, above.0)) named above.1) there in
      subst (λ (t : SchemaEntityType). Contains t.descendants lower) same above.2

-- the walk over entity types, whose uids are gone over type by type
abbrev pub entity_walk : PlainSchema → PlainSchema → Walk EntityType PlainName
entity_walk old new = record {
  name = type_name;
  order = (type_ord.ghosts).cmp;
  cmp = name_cmp;
  ordered = entity_type_ord-name_cmp;
  tied = name_test;
  Above = MayStandAbove old;
  Still = MayStandAbove new;
  Lost = IsAncestorLost old new;
  of = λ uid. uid.ty;
}

-- the uids that are left while an entity type's descendants are gone over: of its type and above
-- one of those that are left, or of a type that is left
abbrev pub IsTypeLeft : PlainName → List PlainName → List PlainName → PlainName → PlainUid → Type 0
IsTypeLeft = IsLeftOf (λ uid. uid.ty)

-- at first all entity types are left
pub types_left : (old new : PlainSchema) (names : List PlainName) (ancestors : BTreeMap EntityType EntityUID) → ancestors.entries ≡ []
    → map (λ it. it.0) old.entity_types ≡ names
    → AreAncestorsSoFar old new (λ lower upper. Contains names upper.ty) ancestors
types_left old new names ancestors empty are =
    all_left (entity_walk old new) names ancestors
    (λ lower upper above. subst (λ xs. Contains xs upper.ty) are
    (Contains-image (λ (it : PlainName × SchemaEntityType). it.0) old.entity_types (upper.ty, above.0) above.1))
    (anything_left (entity_walk old new) ancestors empty)

-- a name that the schema hasn't is gone past
pub past_no_type : (old new : PlainSchema) (name : PlainName) (rest : List PlainName) (ancestors : BTreeMap EntityType EntityUID)
    → ((it : SchemaEntityType) → ¬ Contains old.entity_types (name, it))
    → AreAncestorsSoFar old new (λ lower upper. Contains (name ∷ rest) upper.ty) ancestors
    → AreAncestorsSoFar old new (λ lower upper. Contains rest upper.ty) ancestors
past_no_type old new name rest ancestors none =
    past_none (entity_walk old new) name rest ancestors
    (λ lower upper named above. none above.0 (subst (λ n. Contains old.entity_types (n, above.0)) named above.1))

-- a name under which nothing is found isn't one of the map's
pub none_kept : (ancestors : BTreeMap EntityType EntityUID) (name : EntityType) → upper_at ancestors name ≡ None
    → is_some (get ((type_ord.ghosts).cmp) ancestors name) ≡ false
none_kept = upper.none_kept type_name (type_ord.ghosts).cmp name_cmp entity_type_ord-name_cmp
