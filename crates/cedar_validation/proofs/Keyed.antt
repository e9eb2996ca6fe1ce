-- Entries of maps in order, against what their keys stand for.
use Rattle.std.proofs.Common.{◌≡◌, ◌↔◌, IsTrue, List, [], ◌∷◌, Some, is_some, map, sym, ◌∙◌, refl, Contains}
use Rattle.std.proofs.lemmas.Map.Entries.{place_from_lookup}
use Rattle.std.proofs.lemmas.Map.Made.{is_some-lookup}
use Rattle.std.proofs.lemmas.Option.{get_or_from_slice_get, slice_get_within}
use Rattle.std.specs.BTreeMap.{is_at}
use Rattle.std.specs.Cmp.{Equal-is}
use Rattle.std.specs.Map.{keys_of, lookup}
use Rattle.std.specs.declared.cmp.Ordering.{Ordering}
use Rattle.std.specs.declared.cmp.Ordering.TheVariants.{Equal}
use Rattle.cedar_ast.proofs.Basics.{Contains-image}
use Rattle.cedar_ast.proofs.Lists.{Contains-preimage, list_any-Contains}
use Rattle.cedar_ast.proofs.Names.{entity_type_ord-Equal}
use Rattle.cedar_ast.proofs.Uids.{entity_uid_ord-Equal}
use Rattle.cedar_ast.specs.contracts.entity_type.EntityTypeOrd.TheImpl as entity_type_ord
use Rattle.cedar_ast.specs.contracts.entity_uid.EntityUIDOrd.TheImpl as entity_uid_ord
use Rattle.cedar_validation.specs.Words.{EntityType, EntityUID, PlainName, PlainUid, ValidatorActionId, ValidatorEntityType, plain_action_entry, plain_entry, type_name, uid_of}

module _ {K V P Q : Type 0} (f : K → P) (plain : K × V → P × Q) (keyed : (e : K × V) → (plain e).0 ≡ f e.0) where
  -- the names of plain entries are those that the keys stand for
  pub names_of_keys : (es : List (K × V)) → map (λ (it : P × Q). it.0) (map plain es) ≡ map f (keys_of es)
  names_of_keys [] = refl
  names_of_keys (e ∷ es) = λ i. keyed e i ∷ names_of_keys es i

  -- a key stands for one of the names
  pub key_has : (es : List (K × V)) (key : K) → Contains (keys_of es) key → Contains (map (λ (it : P × Q). it.0) (map plain es)) (f key)
  key_has es key among =
      rw (sym (names_of_keys es)) at (Contains-image f (keys_of es) key among)

  -- one of the names is what a key stands for
  pub has_key : (es : List (K × V)) (name : P) → Contains (map (λ (it : P × Q). it.0) (map plain es)) name
      → (key : K) × Contains (keys_of es) key × (f key ≡ name)
  has_key es name among =
      Contains-preimage f (keys_of es) name (rw (names_of_keys es) at among)

  module _ (cmp : K → K → Ordering) (ties : (a b : K) → (cmp a b ≡ Equal) ↔ (f a ≡ f b)) (key : K) where
    -- keys tie where they have one name
    decides : (other : K) → IsTrue (is_at (cmp key) other) ↔ (f other ≡ f key)
    decides other = (
      λ tie. sym ((ties key other).0 ((Equal-is (cmp key other)).0 tie)),
      λ same. (Equal-is (cmp key other)).1 ((ties key other).1 (sym same)),
    )

    -- something is found exactly where the name is one of them
    pub stands : (es : List (K × V)) → IsTrue (is_some (lookup (is_at (cmp key)) es)) ↔ Contains (map (λ (it : P × Q). it.0) (map plain es)) (f key)
    stands es =
        let any = list_any-Contains f (f key) (is_at (cmp key)) decides (keys_of es) in (
          λ there. rw (sym (names_of_keys es)) at (any.0 (sym (is_some-lookup (is_at (cmp key)) es) ∙ there)),
          λ among. is_some-lookup (is_at (cmp key)) es ∙ any.1 (rw (names_of_keys es) at among),
        )

    -- what is found is an entry of the name
    pub found_entry : (es : List (K × V)) (value : V) → lookup (is_at (cmp key)) es ≡ Some value
        → (other : K) × Contains es (other, value) × (f other ≡ f key)
    found_entry es value found =
        let place = place_from_lookup (is_at (cmp key)) es value found in
        let entry : K × V = (place.1, value) in (
          place.1,
          (
            place.0,
            slice_get_within es place.0 entry place.2,
            get_or_from_slice_get es place.0 entry entry place.2,
          ),
          (decides place.1).0 place.3,
        )

abbrev Types : Type 0
Types = List (EntityType × ValidatorEntityType)

abbrev Actions : Type 0
Actions = List (EntityUID × ValidatorActionId)

-- the names of entity types
abbrev pub names_in : Types → List PlainName
names_in types = map (λ it. it.0) (map plain_entry types)

-- the uids of actions
abbrev pub uids_in : Actions → List PlainUid
uids_in actions = map (λ it. it.0) (map plain_action_entry actions)

-- a key is one of the names
pub key_named : (types : Types) (key : EntityType) → Contains (keys_of types) key → Contains (names_in types) (type_name key)
key_named = key_has type_name plain_entry (λ e. refl)

pub key_with_uid : (actions : Actions) (key : EntityUID) → Contains (keys_of actions) key → Contains (uids_in actions) (uid_of key)
key_with_uid = key_has uid_of plain_action_entry (λ e. refl)

-- a name is that of a key
pub named_key : (types : Types) (name : PlainName) → Contains (names_in types) name
    → (key : EntityType) × Contains (keys_of types) key × (type_name key ≡ name)
named_key = has_key type_name plain_entry (λ e. refl)

pub key_of_uid : (actions : Actions) (uid : PlainUid) → Contains (uids_in actions) uid
    → (key : EntityUID) × Contains (keys_of actions) key × (uid_of key ≡ uid)
key_of_uid = has_key uid_of plain_action_entry (λ e. refl)

-- an entity type is found exactly where its name is one of them
pub type_stands : (types : Types) (key : EntityType) → IsTrue (is_some (lookup (is_at ((entity_type_ord.ghosts).cmp key)) types))
    ↔ Contains (names_in types) (type_name key)
type_stands types key =
    stands type_name plain_entry (λ e. refl) (entity_type_ord.ghosts).cmp entity_type_ord-Equal key types

pub action_stands : (actions : Actions) (key : EntityUID) → IsTrue (is_some (lookup (is_at ((entity_uid_ord.ghosts).cmp key)) actions))
    ↔ Contains (uids_in actions) (uid_of key)
action_stands actions key =
    stands uid_of plain_action_entry (λ e. refl) (entity_uid_ord.ghosts).cmp entity_uid_ord-Equal key actions

-- what is found is an entry of the name
pub type_found : (types : Types) (key : EntityType) (it : ValidatorEntityType)
    → lookup (is_at ((entity_type_ord.ghosts).cmp key)) types ≡ Some it
    → (other : EntityType) × Contains types (other, it) × (type_name other ≡ type_name key)
type_found types key =
    found_entry type_name plain_entry (λ e. refl) (entity_type_ord.ghosts).cmp entity_type_ord-Equal key types
