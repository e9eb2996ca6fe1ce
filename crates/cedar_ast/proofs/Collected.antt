-- Entities that stand at their own uids: look-ups, and what an insertion changes.
use Rattle.std.proofs.Common.{◌≡◌, ◌≢◌, Bool, true, false, cond, Some, Result, Ok, Err, List, [], ◌∷◌, OnOk, OnErr, map, All, refl, sym, ap, ◌∙◌}
use Rattle.std.proofs.lemmas.Bool.Decides.{Decides-like}
use Rattle.std.proofs.lemmas.List.Elements.{All-nil, All-cons, All-head, All-tail}
use Rattle.std.specs.BTreeMap.{BTreeMap, IsOrdered, get_by, insert_entry, values}
use Rattle.std.specs.Bool.{Decides}
use Rattle.std.specs.Cmp.{Equal-is}
use Rattle.std.specs.List.{find}
use Rattle.std.specs.List.Sorted.{IsStrictlySortedBy}
use Rattle.std.specs.Map.{keys_of, lookup, values_of}
use Rattle.std.specs.Ordering.{is_eq, match_ordering}
use Rattle.std.specs.declared.cmp.Ordering.{Ordering}
use Rattle.std.specs.declared.cmp.Ordering.TheVariants.{Less, Equal, Greater}
use Rattle.cedar_ast.proofs.Ordered.{IsStrictlySortedBy-map}
use Rattle.cedar_ast.proofs.PlainNames.{uid_cmp-Equal}
use Rattle.cedar_ast.proofs.Uids.{entity_uid_ord-uid_cmp, entity_uid_ord-Equal}
use Rattle.cedar_ast.specs.Words.{Entity, EntityUID, IsKeyed, PlainUid, entity_uid, uid_cmp, uid_of}
use Rattle.cedar_ast.specs.contracts.entity_uid.EntityUIDOrd.TheImpl as entity_uid_ord

abbrev Entries : Type 0
Entries = List (EntityUID × Entity)

-- the order of the keys
abbrev by_uid : EntityUID → EntityUID → Ordering
by_uid = (entity_uid_ord.ghosts).cmp

-- an entry stands at the uid of its entity
abbrev IsAtItself : EntityUID × Entity → Type 0
IsAtItself entry = uid_of entry.0 ≡ entity_uid entry.1

-- whether an entity has the uid
abbrev has_uid : PlainUid → Entity → Bool
has_uid uid entity = is_eq (uid_cmp uid (entity_uid entity))

has_uid-Decides : (uid : PlainUid) (entity : Entity) → Decides (has_uid uid entity) (uid ≡ entity_uid entity)
has_uid-Decides uid entity =
    Decides-like _ (uid_cmp-Equal uid (entity_uid entity)).0 (uid_cmp-Equal uid (entity_uid entity)).1
    (Equal-is (uid_cmp uid (entity_uid entity)))

-- what a look-up by key finds is what a search by uid finds
lookup-find : (uid : PlainUid) (es : Entries) → All IsAtItself es
    → lookup (λ key. is_eq (uid_cmp uid (uid_of key))) es ≡ find (has_uid uid) (values_of es)
lookup-find uid [] keyed = refl
lookup-find uid (e ∷ es) keyed =
    let own : uid_of e.0 ≡ entity_uid e.1 = All-head IsAtItself e es keyed in
    let rest = lookup-find uid es (All-tail IsAtItself e es keyed) in
    λ i. cond (is_eq (uid_cmp uid (own i))) (Some e.1) (rest i)

-- the map's look-up at a key finds the entity of its uid
pub get-find : (entities : BTreeMap EntityUID Entity) (key : EntityUID) → IsKeyed entities
    → get_by (by_uid key) entities ≡ find (has_uid (uid_of key)) (values entities)
get-find entities key keyed =
    (λ i. get_by (λ other. entity_uid_ord-uid_cmp key other i) entities) ∙ lookup-find (uid_of key) entities.entries keyed

-- the keys stand for the uids of the entities
uids-keys : (es : Entries) → All IsAtItself es → map uid_of (keys_of es) ≡ map entity_uid (values_of es)
uids-keys [] keyed = refl
uids-keys (e ∷ es) keyed = λ i. All-head IsAtItself e es keyed i ∷ uids-keys es (All-tail IsAtItself e es keyed) i

-- the entities are in uid order
pub uids_ordered : (entities : BTreeMap EntityUID Entity) → IsKeyed entities → IsOrdered by_uid entities
    → IsStrictlySortedBy uid_cmp (map entity_uid (values entities))
uids_ordered entities keyed ordered =
    rw (uids-keys entities.entries keyed) at (IsStrictlySortedBy-map by_uid uid_cmp uid_of entity_uid_ord-uid_cmp (keys_of entities.entries) ordered)

-- two tests in turn that pass alike
cond_twice : {X : Type 0} (b c : Bool) (x y z : X) → b ≡ c → cond b x z ≡ cond b x (cond c y z)
cond_twice true c x y z same = refl
cond_twice false true x y z same = cc
cond_twice false false x y z same = refl

-- two tests in turn that don't both pass may be asked in either order
cond_swap : {X : Type 0} (b c : Bool) (x y z : X) → (b ≡ true → ¬ (c ≡ true)) → cond b x (cond c y z) ≡ cond c y (cond b x z)
cond_swap true true x y z apart = absurd (apart refl refl)
cond_swap true false x y z apart = refl
cond_swap false c x y z apart = refl

-- a test of what isn't so fails
false_from_Decides : {P : Type 0} (r : Bool) → Decides r P → ¬ P → r ≡ false
false_from_Decides true decides never = absurd (never (decides.0 refl))
false_from_Decides false decides never = refl

module _ (key : EntityUID) (entity : Entity) (own : uid_of key ≡ entity_uid entity) where
  -- one step of an insertion keeps each entry at its own uid
  keyed_step : (e : EntityUID × Entity) (es more : Entries) → All IsAtItself (e ∷ es) → All IsAtItself more
      → (r : Ordering) → by_uid key e.0 ≡ r → All IsAtItself (match_ordering r ((key, entity) ∷ e ∷ es) ((e.0, entity) ∷ es) (e ∷ more))
  keyed_step e es more keyed after Less p = All-cons IsAtItself (key, entity) (e ∷ es) own keyed
  keyed_step e es more keyed after Equal p = All-cons IsAtItself (e.0, entity) es
      (sym ((entity_uid_ord-Equal key e.0).0 p) ∙ own) (All-tail IsAtItself e es keyed)
  keyed_step e es more keyed after Greater p = All-cons IsAtItself e more (All-head IsAtItself e es keyed) after

  -- an insertion at the entity's own uid keeps each entry at its own
  keyed-insert_entry : (es : Entries) → All IsAtItself es → All IsAtItself (insert_entry by_uid es key entity)
  keyed-insert_entry [] keyed = All-cons IsAtItself (key, entity) [] own (All-nil IsAtItself)
  keyed-insert_entry (e ∷ es) keyed =
      keyed_step e es (insert_entry by_uid es key entity) keyed (keyed-insert_entry es (All-tail IsAtItself e es keyed))
      (by_uid key e.0) refl

  -- an entity that comes before the inserted one has another uid
  apart : (e : EntityUID × Entity) → IsAtItself e → by_uid key e.0 ≡ Greater → (uid : PlainUid) → has_uid uid e.1 ≡ true
      → ¬ (has_uid uid entity ≡ true)
  apart e at_itself p uid there here =
      let same : uid_of key ≡ uid_of e.0 = own ∙ sym ((has_uid-Decides uid entity).0 here)
      ∙ (has_uid-Decides uid e.1).0 there ∙ sym at_itself in
      let tie : by_uid key e.0 ≡ Equal = (entity_uid_ord-Equal key e.0).1 same in
      cc

  -- one step of an insertion changes what is found at the entity's uid alone
  find_step : (uid : PlainUid) (e : EntityUID × Entity) (es more : Entries) → IsAtItself e
      → find (has_uid uid) (values_of more) ≡ cond (has_uid uid entity) (Some entity)
      (find (has_uid uid) (values_of es)) → (r : Ordering) → by_uid key e.0 ≡ r
      → find (has_uid uid) (values_of (match_ordering r ((key, entity) ∷ e ∷ es) ((e.0, entity) ∷ es) (e ∷ more)))
      ≡ cond (has_uid uid entity) (Some entity) (find (has_uid uid) (values_of (e ∷ es)))
  find_step uid e es more at_itself found Less p = refl
  find_step uid e es more at_itself found Equal p =
      let same : entity_uid entity ≡ entity_uid e.1 = sym own ∙ (entity_uid_ord-Equal key e.0).0 p ∙ at_itself in
      cond_twice (has_uid uid entity) (has_uid uid e.1) _ _ _ (ap (λ other. is_eq (uid_cmp uid other)) same)
  find_step uid e es more at_itself found Greater p =
      ap (cond (has_uid uid e.1) (Some e.1)) found ∙ cond_swap (has_uid uid e.1) (has_uid uid entity) _ _ _ (apart e at_itself p uid)

  -- an insertion changes what is found at the entity's uid alone
  find-insert_entry : (uid : PlainUid) (es : Entries) → All IsAtItself es
      → find (has_uid uid) (values_of (insert_entry by_uid es key entity))
      ≡ cond (has_uid uid entity) (Some entity) (find (has_uid uid) (values_of es))
  find-insert_entry uid [] keyed = refl
  find-insert_entry uid (e ∷ es) keyed =
      find_step
      uid
      e
      es (insert_entry by_uid es key entity) (All-head IsAtItself e es keyed)
      (find-insert_entry uid es (All-tail IsAtItself e es keyed)) (by_uid key e.0)
      refl

  module _ (old new : Entries) (keyed : All IsAtItself old) where
    -- after an insertion that may be refused each entry stands at its own uid
    pub keyed_after : {A E : Type 0} (r : Result A E) → OnOk r (new ≡ insert_entry by_uid old key entity)
        → OnErr r (new ≡ old) → All IsAtItself new
    keyed_after (Ok x) inserted refused = rw inserted (keyed-insert_entry old keyed)
    keyed_after (Err e) inserted refused = rw refused keyed

    found_after : new ≡ insert_entry by_uid old key entity → (uid : PlainUid)
        → find (has_uid uid) (values_of new) ≡ cond (has_uid uid entity) (Some entity) (find (has_uid uid) (values_of old))
    found_after inserted uid = ap (λ es. find (has_uid uid) (values_of es)) inserted ∙ find-insert_entry uid old keyed

    -- the inserted entity is found at its uid
    pub inserted_found : new ≡ insert_entry by_uid old key entity → find (has_uid (entity_uid entity)) (values_of new) ≡ Some entity
    inserted_found inserted =
        found_after inserted (entity_uid entity)
        ∙ ap (λ b. cond b (Some entity) (find (has_uid (entity_uid entity)) (values_of old)))
        ((has_uid-Decides (entity_uid entity) entity).1 refl)

    -- what is found at another uid stays
    pub others_found : new ≡ insert_entry by_uid old key entity → (uid : PlainUid) → uid ≢ entity_uid entity
        → find (has_uid uid) (values_of new) ≡ find (has_uid uid) (values_of old)
    others_found inserted uid other =
        found_after inserted uid ∙ ap (λ b. cond b (Some entity) (find (has_uid uid) (values_of old)))
        (false_from_Decides _ (has_uid-Decides uid entity) other)

  -- the map's look-up at the inserted key finds the entity of the inserted uid
  pub get-find_own : (entities : BTreeMap EntityUID Entity) → IsKeyed entities
      → get_by (by_uid key) entities ≡ find (has_uid (entity_uid entity)) (values entities)
  get-find_own entities keyed = get-find entities key keyed ∙ ap (λ uid. find (has_uid uid) (values entities)) own
