-- The bag of which these common types, entity types and actions are collected.
use Rattle.std.proofs.Common.{◌≡◌, List, Option, map, ap, sym, subst, ◌∙◌, Contains, inl, inr}
use Rattle.std.proofs.lemmas.List.Elements.{Contains-append_cases}
use Rattle.std.proofs.lemmas.Simd.{map-map}
use Rattle.std.specs.Global.{Box}
use Rattle.cedar_ast.proofs.Lists.{Contains-preimage}
use Rattle.cedar_ast.proofs.ValueLemmas.{IsName-type_name}
use Rattle.cedar_schema.specs.Words.{ActionBody, ActionFragment, Bag, EntityBody, EntityType, EntityTypeFragment, EntityUID, Extensions, IsReserved, PlainName, PlainUid, Reference, ReferenceType, Written, action_uids, declared_actions, declared_entities, definitions, type_name, uid_of, written_actions, written_entities}

-- the name of an entity type isn't reserved
type_unreserved : (ty : EntityType) (name : PlainName) → type_name ty ≡ name → ¬ IsReserved name
type_unreserved ty name same =
    let P : PlainName → Type 0 = λ each. ¬ IsReserved each in subst P same (IsName-type_name ty).2

module _ (N : Type 0) (refer : Option PlainName → ReferenceType → N → Reference) (bag : Bag)
    (entity_types : List (Box (EntityType × Written (EntityTypeFragment N))))
    (is_entities : written_entities N refer entity_types ≡ declared_entities bag) where
  -- the names of the entity types are those that are declared
  names_collected : map (λ it. type_name it.value.0) entity_types ≡ map (λ it. it.0) (declared_entities bag)
  names_collected =
      let key : PlainName × EntityBody → PlainName = λ it. it.0 in
      sym (map-map key _ entity_types) ∙ ap (map key) is_entities

module _ (N : Type 0) (refer : Option PlainName → ReferenceType → N → Reference) (bag : Bag) (extensions : Extensions)
    (entity_types : List (Box (EntityType × Written (EntityTypeFragment N))))
    (actions : List (Box (EntityUID × Written (ActionFragment N N))))
    (is_entities : written_entities N refer entity_types ≡ declared_entities bag)
    (is_actions : written_actions N refer actions ≡ declared_actions bag) where
  -- no entity type and no type of an action has a reserved name
  pub collected_unreserved : (name : PlainName) → Contains (definitions bag extensions).entities name → ¬ IsReserved name
  collected_unreserved name among =
      let P : List PlainName → Type 0 = λ names. Contains names name in
      let key : PlainUid × ActionBody → PlainUid = λ it. it.0 in
      elim (Contains-append_cases (map (λ it. it.0) (declared_entities bag)) (map (λ uid. uid.ty) (action_uids bag)) name among) [
        | inl declared ↦ let found = Contains-preimage (λ (it : Box (EntityType × Written (EntityTypeFragment N))). type_name it.value.0) entity_types name
            (subst P (sym (names_collected N refer bag entity_types is_entities)) declared) in
            type_unreserved found.0.value.0 name found.2
        | inr of_action ↦ let uid = Contains-preimage (λ (each : PlainUid). each.ty) (action_uids bag) name of_action in
            let Q : List PlainUid → Type 0 = λ uids. Contains uids uid.0 in
            let found = Contains-preimage (λ (it : Box (EntityUID × Written (ActionFragment N N))). uid_of it.value.0) actions uid.0
            (subst Q (sym (sym (map-map key _ actions) ∙ ap (map key) is_actions)) uid.1) in
            type_unreserved found.0.value.0.ty name (ap (λ (each : PlainUid). each.ty) found.2 ∙ uid.2)
      ]
