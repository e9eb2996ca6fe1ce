-- What is found by name or by uid, as plain data.
use Rattle.std.proofs.Common.{◌≡◌, Bool, true, false, cond, List, [], ◌∷◌, Option, Some, None, is_some, map, ap, refl, sym, ◌∙◌, Contains}
use Rattle.std.proofs.lemmas.Map.Made.{is_some-lookup}
use Rattle.std.specs.Bool.{Decides}
use Rattle.std.specs.Map.{lookup}
use Rattle.std.specs.Option.{option_map, unwrap_or}
use Rattle.std.specs.Ordering.{is_eq}
use Rattle.std.specs.declared.cmp.Ordering.{Ordering}
use Rattle.cedar_ast.proofs.Names.{entity_type_ord-name_cmp}
use Rattle.cedar_ast.proofs.Uids.{entity_uid_ord-uid_cmp}
use Rattle.cedar_ast.specs.contracts.entity_type.EntityTypeOrd.TheImpl as type_ord
use Rattle.cedar_ast.specs.contracts.entity_uid.EntityUIDOrd.TheImpl as uid_ord
use Rattle.cedar_queries.specs.Words.{EntityType, EntityUID, Entries, SchemaAction, SchemaEntityType, ValidatorActionId, ValidatorEntityType, action_at, action_descendants, action_of, descendant_names, descendants_of, entity_type_of, get_by, name_cmp, plain_action_entry, plain_entry, type_name, uid_cmp, uid_of}
use Rattle.cedar_schema_semantics.proofs.OccurrenceLemmas.{any_of, name_test, some_of, uid_test}

-- an entity type as plain data
abbrev pub plain_type : ValidatorEntityType → SchemaEntityType
plain_type it = record { name = (entity_type_of it).name; kind = (entity_type_of it).kind; descendants = descendant_names it }

-- what is found among entries in another form is what is found, in that form
lookup-map : {K V L W : Type 0} (f : K → L) (g : V → W) (test : L → Bool) (entries : List (K × V))
    → lookup test (map (λ entry. (f entry.0, g entry.1)) entries) ≡ option_map g (lookup (λ key. test (f key)) entries)
lookup-map f g test [] = refl
lookup-map {K} {V} {L} {W} f g test (entry ∷ rest) =
    let others = lookup-map f g test rest in
    let first : Option V = lookup (λ key. test (f key)) rest in
    let last : Option W = lookup test (map (λ it. (f it.0, g it.1)) rest) in
    elim (test (f entry.0)) as (λ b. cond b (Some (g entry.1)) last ≡ option_map g (cond b (Some entry.1) first))
    [ true ↦ refl | false ↦ others ]

-- something is found of a key exactly where it is one of the keys
found-Decides : {K V : Type 0} (key : K) (test : K → Bool) → ((other : K) → Decides (test other) (key ≡ other))
    → (entries : List (K × V)) → Decides (is_some (lookup test entries)) (Contains (map (λ entry. entry.0) entries) key)
found-Decides {K} key test tests entries = (
  λ found.
      let some = some_of test (map (λ entry. entry.0) entries) (sym (is_some-lookup test entries) ∙ found) in
      rw ((tests some.0).0 some.2) some.1,
  λ among. is_some-lookup test entries ∙ any_of test (map (λ entry. entry.0) entries) key among ((tests key).1 refl),
)

-- a map whose keys are ordered as what they stand for, and its entries as plain data
module _ {K V P D : Type 0} (cmp : K → K → Ordering) (plain_cmp : P → P → Ordering) (name : K → P) (shown : V → D)
    (same : (a b : K) → cmp a b ≡ plain_cmp (name a) (name b))
    (test : (p q : P) → Decides (is_eq (plain_cmp p q)) (p ≡ q)) (values : Entries K V) (key : K) where
  -- what is found at a key, as plain data
  value_found : lookup (λ other. is_eq (plain_cmp (name key) other)) (map (λ entry. (name entry.0, shown entry.1)) values.entries)
      ≡ option_map shown (get_by (cmp key) values)
  value_found =
      lookup-map name shown (λ other. is_eq (plain_cmp (name key) other)) values.entries
      ∙ sym (ap (λ compare. option_map shown (get_by compare values)) (λ i other. same key other i))

  -- there is something exactly where the key stands for what one of them does
  key_known : Decides (is_some (get_by (cmp key) values))
      (Contains (map (λ (it : P × D). it.0) (map (λ entry. (name entry.0, shown entry.1)) values.entries)) (name key))
  key_known =
      let plain : List (P × D) = map (λ entry. (name entry.0, shown entry.1)) values.entries in
      rw (ap is_some value_found, mapped (get_by (cmp key) values)) at
      (found-Decides (name key) (λ other. is_eq (plain_cmp (name key) other)) (test (name key)) plain)
    where
      mapped : (o : Option V) → is_some (option_map shown o) ≡ is_some o
      mapped None = refl
      mapped (Some it) = refl

module _ (types : Entries EntityType ValidatorEntityType) (name : EntityType) where
  -- the entity type of a name, as plain data
  pub type_found : lookup (λ other. is_eq (name_cmp (type_name name) other)) (map plain_entry types.entries)
      ≡ option_map plain_type (get_by ((type_ord.ghosts).cmp name) types)
  type_found = value_found ((type_ord.ghosts).cmp) name_cmp type_name plain_type entity_type_ord-name_cmp name_test types name

  -- there is one exactly where the name is one of theirs
  pub type_known : Decides (is_some (get_by ((type_ord.ghosts).cmp name) types))
      (Contains (map (λ it. it.0) (map plain_entry types.entries)) (type_name name))
  type_known = key_known ((type_ord.ghosts).cmp) name_cmp type_name plain_type entity_type_ord-name_cmp name_test types name

  -- the descendants of a name are those of the entity type that is found
  pub descendants_found : (it : ValidatorEntityType) → get_by ((type_ord.ghosts).cmp name) types ≡ Some it
      → descendants_of (type_name name) (map plain_entry types.entries) ≡ descendant_names it
  descendants_found it is =
      ap (λ o. unwrap_or (option_map (λ (each : SchemaEntityType). each.descendants) o) []) (type_found ∙ ap (option_map plain_type) is)

  -- where none is found, there are none
  pub descendants_none : get_by ((type_ord.ghosts).cmp name) types ≡ None
      → descendants_of (type_name name) (map plain_entry types.entries) ≡ []
  descendants_none is =
      ap (λ o. unwrap_or (option_map (λ (each : SchemaEntityType). each.descendants) o) []) (type_found ∙ ap (option_map plain_type) is)

module _ (actions : Entries EntityUID ValidatorActionId) (uid : EntityUID) where
  -- the action of a uid, as plain data
  pub action_found : lookup (λ other. is_eq (uid_cmp (uid_of uid) other)) (map plain_action_entry actions.entries)
      ≡ option_map action_of (get_by ((uid_ord.ghosts).cmp uid) actions)
  action_found = value_found ((uid_ord.ghosts).cmp) uid_cmp uid_of action_of entity_uid_ord-uid_cmp uid_test actions uid

  -- what is found at a uid, as plain data
  pub action_shown : (o : Option ValidatorActionId) → get_by ((uid_ord.ghosts).cmp uid) actions ≡ o
      → action_at (uid_of uid) (map plain_action_entry actions.entries) ≡ option_map action_of o
  action_shown o is = action_found ∙ ap (option_map action_of) is

  -- there is one exactly where the uid is one of theirs
  pub action_known : Decides (is_some (get_by ((uid_ord.ghosts).cmp uid) actions))
      (Contains (map (λ it. it.0) (map plain_action_entry actions.entries)) (uid_of uid))
  action_known = key_known ((uid_ord.ghosts).cmp) uid_cmp uid_of action_of entity_uid_ord-uid_cmp uid_test actions uid

  -- the descendants of a uid are those of the action that is found
  pub action_descendants_found : (it : ValidatorActionId) → get_by ((uid_ord.ghosts).cmp uid) actions ≡ Some it
      → action_descendants (uid_of uid) (map plain_action_entry actions.entries) ≡ (action_of it).descendants
  action_descendants_found it is =
      ap (λ o. unwrap_or (option_map (λ (each : SchemaAction). each.descendants) o) []) (action_found ∙ ap (option_map action_of) is)
