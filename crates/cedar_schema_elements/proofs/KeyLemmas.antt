-- Names of entity types and uids of actions, as keys of maps.
use Rattle.std.proofs.Common.{◌≡◌, List, [], ◌∷◌, map, refl}
use Rattle.std.specs.Cmp.{IsTotalOrder}
use Rattle.std.specs.List.Sorted.{IsStrictlySortedBy}
use Rattle.std.specs.Map.{keys_of}
use Rattle.std.specs.declared.cmp.Ordering.{Ordering}
use Rattle.cedar_ast.proofs.Names.{entity_type_ord-name_cmp}
use Rattle.cedar_ast.proofs.Ordered.{IsStrictlySortedBy-map}
use Rattle.cedar_ast.proofs.PlainNames.{name_cmp-total, uid_cmp-total}
use Rattle.cedar_ast.proofs.Uids.{entity_uid_ord-uid_cmp}
use Rattle.cedar_ast.specs.contracts.entity_type.EntityTypeOrd.TheImpl as type_ord
use Rattle.cedar_ast.specs.contracts.entity_uid.EntityUIDOrd.TheImpl as uid_ord
use Rattle.cedar_schema_elements.specs.Words.{EntityType, EntityUID, PlainName, PlainUid, SchemaAction, SchemaEntityType, Twice, ValidatorActionId, ValidatorEntityType, name_cmp, plain_action_entry, plain_entry, type_name, uid_cmp, uid_of}
use Rattle.cedar_schema_semantics.proofs.OccurrenceLemmas.{Twice-sorted_by_name}

-- the order of uids in sets and maps
abbrev pub cmp : EntityUID → EntityUID → Ordering
cmp = (uid_ord.ghosts).cmp

-- the uid of an action
abbrev pub under : PlainUid × SchemaAction → PlainUid
under entry = entry.0

module _ {K V P D : Type 0} (name : K → P) (plain : K × V → P × D) (keyed : (entry : K × V) → (plain entry).0 ≡ name entry.0) where
  -- the names of plain entries are those that the keys stand for
  pub names_of_keys : (entries : List (K × V)) → map (λ (it : P × D). it.0) (map plain entries) ≡ map name (keys_of entries)
  names_of_keys [] = λ i. []
  names_of_keys (entry ∷ rest) = λ i. keyed entry i ∷ names_of_keys rest i

  -- the names of a map that is in order stand once
  keys_once : (order : K → K → Ordering) (plain_order : P → P → Ordering) → IsTotalOrder plain_order
      → ((a b : K) → order a b ≡ plain_order (name a) (name b)) → (entries : List (K × V))
      → IsStrictlySortedBy order (keys_of entries) → (it : P) → ¬ Twice (map (λ (it : P × D). it.0) (map plain entries)) it
  keys_once order plain_order total same entries ordered it =
      rw (names_of_keys entries) (Twice-sorted_by_name plain_order total (map name (keys_of entries)) it
      (IsStrictlySortedBy-map order plain_order name same (keys_of entries) ordered))

-- the names of entity types in order stand once
pub names_once : (entries : List (EntityType × ValidatorEntityType)) → IsStrictlySortedBy ((type_ord.ghosts).cmp) (keys_of entries)
    → (it : PlainName) → ¬ Twice (map (λ (it : PlainName × SchemaEntityType). it.0) (map plain_entry entries)) it
names_once =
    keys_once type_name plain_entry (λ entry. refl) ((type_ord.ghosts).cmp) name_cmp name_cmp-total entity_type_ord-name_cmp

-- the uids of actions in order stand once
pub uids_once : (entries : List (EntityUID × ValidatorActionId)) → IsStrictlySortedBy cmp (keys_of entries)
    → (uid : PlainUid) → ¬ Twice (map under (map plain_action_entry entries)) uid
uids_once = keys_once uid_of plain_action_entry (λ entry. refl) cmp uid_cmp uid_cmp-total entity_uid_ord-uid_cmp
