-- The listed entities of actions are those of the actions.
use Rattle.std.proofs.Common.{◌≡◌, ◌↔◌, ◌++◌, Bool, true, false, List, [], ◌∷◌, Contains, arith, if◌then◌else◌, map, refl, subst, sym, ◌∙◌}
use Rattle.std.proofs.lemmas.Bool.{false≢true}
use Rattle.std.proofs.lemmas.Simd.{map-map}
use Rattle.std.specs.List.{AllByRecursion, flat_map, list_any}
use Rattle.std.specs.List.Sorted.{IsStrictlySortedBy}
use Rattle.std.specs.Map.{keys_of}
use Rattle.std.specs.Ordering.{is_eq}
use Rattle.std.specs.declared.cmp.Ordering.TheVariants.{Less}
use Rattle.cedar_ast.proofs.Basics.{Contains-image, Contains-single}
use Rattle.cedar_ast.proofs.Ordered.{IsStrictlySortedBy-map}
use Rattle.cedar_ast.proofs.Uids.{entity_uid_ord-uid_cmp}
use Rattle.cedar_schema_elements.proofs.KeyLemmas.{cmp}
use Rattle.cedar_schema_elements.specs.ActionEntities.{entity_if_defined, listed_ancestors}
use Rattle.cedar_schema_elements.specs.Words.{ActionEntity, ActionKind, AreActionEntities, EntityUID, IsDefinedKind, IsEntityOfAction, PlainName, PlainUid, SchemaAction, SchemaEntityType, ValidatorActionId, defined_action, external_action, listed_entities, no_entry, plain_action_entry, schema_listing, uid_cmp, uid_of}
use Rattle.cedar_schema_semantics.proofs.OccurrenceLemmas.{Contains-flat_map, Contains-given, any_of, some_of, uid_test}

-- an action whose descendants are tested gives its uid where one passes
given_if : (b : Bool) (uid upper : PlainUid) → Contains (if b then uid ∷ [] else []) upper → (b ≡ true) × (uid ≡ upper)
given_if true uid upper among = (refl, Contains-single uid upper among)
given_if false uid upper among = absurd (omega (arith, among.1))

given_true : (b : Bool) (uid : PlainUid) → b ≡ true → Contains (if b then uid ∷ [] else []) uid
given_true true uid is = (0, omega arith, refl)
given_true false uid is = absurd (false≢true is)

-- an entity is given where the kind is that of a defined action
given_kind : (kind : ActionKind) (entity it : ActionEntity) → Contains (entity_if_defined kind entity) it
    → IsDefinedKind kind × (entity ≡ it)
given_kind (defined_action principals resources context) entity it among = (tt, Contains-single entity it among)
given_kind external_action entity it among = absurd (omega (arith, among.1))

given_defined : (kind : ActionKind) (entity : ActionEntity) → IsDefinedKind kind → Contains (entity_if_defined kind entity) entity
given_defined (defined_action principals resources context) entity is = (0, omega arith, refl)
given_defined external_action entity is = absurd is

module _ (actions : List (PlainUid × SchemaAction)) where
  -- whether an action lists a uid among its descendants
  abbrev lists : PlainUid → SchemaAction → Bool
  lists lower it = list_any (λ below. is_eq (uid_cmp below lower)) it.descendants

  -- those that list an action are just its listed uppers
  ancestors_are : (lower upper : PlainUid) → Contains (listed_ancestors actions lower) upper
      ↔ ((it : SchemaAction) × Contains actions (upper, it) × Contains it.descendants lower)
  ancestors_are lower upper = (
    λ among.
        let from = Contains-flat_map (λ (it : PlainUid × SchemaAction). if lists lower it.1 then it.0 ∷ [] else []) actions upper among in
        let given = given_if (lists lower from.0.1) from.0.0 upper from.2 in
        let below = some_of (λ below. is_eq (uid_cmp below lower)) from.0.1.descendants given.0 in (
          from.0.1,
          subst (λ (uid : PlainUid). Contains actions (uid, from.0.1)) given.1 from.1,
          subst (Contains from.0.1.descendants) ((uid_test below.0 lower).0 below.2) below.1,
        ),
    λ lists_it.
        Contains-given (λ (it : PlainUid × SchemaAction). if lists lower it.1 then it.0 ∷ [] else []) actions (upper, lists_it.0) upper
        lists_it.1
        (given_true (lists lower lists_it.0) upper
        (any_of (λ below. is_eq (uid_cmp below lower)) lists_it.0.descendants lower lists_it.2 ((uid_test lower lower).1 refl))),
  )

  -- the entity of the action of a uid
  abbrev entity_of : PlainUid → ActionEntity
  entity_of uid = record { uid = uid; attributes = no_entry; tags = no_entry; ancestors = listed_ancestors actions uid }

  abbrev given_of : PlainUid × SchemaAction → List ActionEntity
  given_of it = entity_if_defined it.1.kind (entity_of it.0)

  -- what holds of the uids of actions holds of those of their entities
  all_given : (P : PlainUid → Type 0) (rest : List (PlainUid × SchemaAction)) → AllByRecursion P (map (λ it. it.0) rest)
      → AllByRecursion P (map (λ it. it.uid) (flat_map given_of rest))
  all_given P [] all = tt
  all_given P (first ∷ rest) all = by first.1.kind (all_given P rest all.1) where
    by : (kind : ActionKind) → AllByRecursion P (map (λ it. it.uid) (flat_map given_of rest))
        → AllByRecursion P (map (λ it. it.uid) (entity_if_defined kind (entity_of first.0) ++ flat_map given_of rest))
    by (defined_action principals resources context) later = (all.0, later)
    by external_action later = later

  -- so they are in order where the actions are
  given_sorted : (rest : List (PlainUid × SchemaAction)) → IsStrictlySortedBy uid_cmp (map (λ it. it.0) rest)
      → IsStrictlySortedBy uid_cmp (map (λ it. it.uid) (flat_map given_of rest))
  unfolding IsStrictlySortedBy
  given_sorted [] sorted = tt
  given_sorted (first ∷ rest) sorted =
      by first.1.kind (all_given (λ other. uid_cmp first.0 other ≡ Less) rest sorted.0) (given_sorted rest sorted.1)
    where
      by : (kind : ActionKind) → AllByRecursion (λ other. uid_cmp first.0 other ≡ Less) (map (λ it. it.uid) (flat_map given_of rest))
          → IsStrictlySortedBy uid_cmp (map (λ it. it.uid) (flat_map given_of rest))
          → IsStrictlySortedBy uid_cmp (map (λ it. it.uid) (entity_if_defined kind (entity_of first.0) ++ flat_map given_of rest))
      by (defined_action principals resources context) below later = (below, later)
      by external_action below later = later

-- the listed entities of actions in order are theirs
pub listed_are : (types : List (PlainName × SchemaEntityType)) (actions : List (EntityUID × ValidatorActionId))
    → IsStrictlySortedBy uid_cmp (map (λ it. it.0) (map plain_action_entry actions)) → AreActionEntities (schema_listing types actions)
listed_are types actions sorted =
    let plain = map plain_action_entry actions in
    let uid_of_entity : ActionEntity → PlainUid = λ it. it.uid in
    record {
      entities = λ it among.
          let from = Contains-flat_map (given_of plain) plain it among in
          let given = given_kind from.0.1.kind (entity_of plain from.0.0) it from.2 in
          let made : IsEntityOfAction (schema_listing types actions) (entity_of plain from.0.0) = record {
            defined = (from.0.1, from.1, given.0);
            attributes = refl;
            tags = refl;
            ancestors = ancestors_are plain from.0.0;
          } in
          subst (IsEntityOfAction (schema_listing types actions)) given.1 made;
      each = λ uid defines.
          Contains-image uid_of_entity (listed_entities plain) (entity_of plain uid)
          (Contains-given (given_of plain) plain (uid, defines.0) (entity_of plain uid) defines.1
          (given_defined defines.0.kind (entity_of plain uid) defines.2));
      in_order = given_sorted plain plain sorted;
    }

-- so they are where the keys of the actions are in order
pub listed_of_keys : (types : List (PlainName × SchemaEntityType)) (actions : List (EntityUID × ValidatorActionId))
    → IsStrictlySortedBy cmp (keys_of actions) → AreActionEntities (schema_listing types actions)
listed_of_keys types actions sorted =
    let uid : PlainUid × SchemaAction → PlainUid = λ it. it.0 in
    let key : EntityUID × ValidatorActionId → EntityUID = λ it. it.0 in
    listed_are types actions
    (subst (IsStrictlySortedBy uid_cmp) (sym (map-map uid plain_action_entry actions ∙ sym (map-map uid_of key actions)))
    (IsStrictlySortedBy-map cmp uid_cmp uid_of entity_uid_ord-uid_cmp (keys_of actions) sorted))
