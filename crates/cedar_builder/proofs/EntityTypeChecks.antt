-- What is found among entity types as they are gone through.
use Rattle.std.proofs.Common.{◌≡◌, IsTrue, List, [], ◌∷◌, ◌++◌, Some, map, sym, Contains, inl, inr}
use Rattle.std.proofs.lemmas.Bool.{true≢false}
use Rattle.std.proofs.lemmas.List.{map-append}
use Rattle.std.proofs.lemmas.List.Elements.{Contains-append_cases}
use Rattle.std.specs.BTreeMap.{is_at}
use Rattle.std.specs.Map.{lookup}
use Rattle.cedar_ast.proofs.Basics.{Contains-image, Contains-single}
use Rattle.cedar_ast.proofs.Names.{entity_type_eq-same}
use Rattle.cedar_ast.specs.contracts.entity_type.EntityTypeEq.TheImpl as entity_type_equal
use Rattle.cedar_ast.specs.contracts.entity_type.EntityTypeOrd.TheImpl as entity_type_ord
use Rattle.cedar_ast.specs.contracts.entity_type.EntityTypePartialEq.TheImpl as entity_type_eq
use Rattle.cedar_builder.proofs.AtKeys.{at_equal_keys, entry_at_key, entry_standing, found_at_key}
use Rattle.cedar_builder.specs.Words.{EntityType, IsDistinct, IsEnumerated, IsEnumeratedAt, IsExternalAt, EntityTypeLeadsTo, ValidatorEntityType, entity_type_of, has_descendant, keys_of, node_at, type_name}
use Rattle.cedar_graph.proofs.KeyedEdges.{some_with}
use Rattle.cedar_types.proofs.MemberLemmas.{Contains-named, list_any-names}

-- what holds of each that was shown, and of one more
pub shown_more : {A B : Type 0} (f : A → B) (P : B → Type 0) (xs : List A) (x : A) → ((y : B) → Contains (map f xs) y → P y) → P (f x)
    → (y : B) → Contains (map f (xs ++ x ∷ [])) y → P y
shown_more {B = B} f P xs x each last y among =
    elim (Contains-append_cases (map f xs) (f x ∷ []) y (rw (map-append f xs (x ∷ [])) at among)) [
      | inl here ↦ each y here
      | inr here ↦ rw (Contains-single (f x) y here) at last
    ]

module _ (nodes : List (EntityType × ValidatorEntityType)) where
  -- what is found by the order of names stands at the name
  pub found_at_name : (key : EntityType) → lookup (is_at ((entity_type_ord.ghosts).cmp key)) nodes ≡ node_at nodes key
  found_at_name = found_at_key (entity_type_ord.ghosts).cmp entity_type_ord.Laws.matches_eq-law nodes

  -- an entry is what stands at its key
  pub entry_stands : IsDistinct (entity_type_eq.ghosts).eq (keys_of nodes) → (key : EntityType) (it : ValidatorEntityType)
      → Contains nodes (key, it) → node_at nodes key ≡ Some it
  entry_stands = entry_at_key entity_type_equal.Laws.laws-law nodes

  -- a node leads to each of its descendants
  pub entry_leads : (key : EntityType) (it : ValidatorEntityType) → node_at nodes key ≡ Some it → (lower : EntityType)
      → Contains it.descendants.keys lower → EntityTypeLeadsTo nodes key lower
  entry_leads key it found lower among =
      rw found
      ((list_any-names lower it.descendants.keys).1 (Contains-image type_name it.descendants.keys lower among))

  -- an enumerated entity type stands at its key
  pub entry_enumerated : (key : EntityType) (it : ValidatorEntityType) → node_at nodes key ≡ Some it
      → IsEnumerated (entity_type_of it).kind → IsEnumeratedAt (node_at nodes key)
  entry_enumerated key it found is = rw found is

  -- what is certain of each entry is certain of the map
  pub certain_of_all : ((upper : EntityType) (it : ValidatorEntityType) → Contains nodes (upper, it)
      → IsEnumerated (entity_type_of it).kind → (lower : EntityType) → Contains it.descendants.keys lower
      → ¬ IsExternalAt (node_at nodes lower))
      → (upper lower : EntityType) → EntityTypeLeadsTo nodes upper lower → IsEnumeratedAt (node_at nodes upper)
      → ¬ IsExternalAt (node_at nodes lower)
  certain_of_all each upper lower leads is external =
      let it = some_with (node_at nodes upper) (λ node. IsTrue (has_descendant node lower)) leads in
      let entry = entry_standing (entity_type_eq.ghosts).eq nodes upper it.0 it.1 in
      let named = Contains-named it.0.descendants.keys (type_name lower) ((list_any-names lower it.0.descendants.keys).0 it.2) in
      each entry.0 it.0 entry.1 (rw it.1 at is) named.0 named.1
      (rw (at_equal_keys entity_type_equal.Laws.laws-law nodes lower named.0 ((entity_type_eq-same lower named.0).1 (sym named.2))) at external)
