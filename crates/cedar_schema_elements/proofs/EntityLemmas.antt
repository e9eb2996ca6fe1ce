-- The entities of actions, as they are collected one after another.
use Rattle.std.proofs.Common.{◌≡◌, ◌≢◌, ◌⊎◌, ◌↔◌, ◌++◌, Bool, true, false, List, [], ◌∷◌, Some, IsSome, is_some, find, string_bytes, map, ap, sym, subst, ◌∙◌, refl, inl, inr, arith, append_assoc, Contains}
use Rattle.std.proofs.lemmas.Bool.{false≢true, cond-true, cond-false}
use Rattle.std.proofs.lemmas.List.{append-nil}
use Rattle.std.proofs.lemmas.Option.{same_Some}
use Rattle.std.proofs.lemmas.Simd.{map-map}
use Rattle.std.specs.BTreeMap.{BTreeMap}
use Rattle.std.specs.BTreeSet.{BTreeSet}
use Rattle.std.specs.List.Sorted.{IsStrictlySortedBy}
use Rattle.std.specs.Ordering.{is_eq}
use Rattle.std.specs.declared.alloc.Global.{Global}
use Rattle.std.specs.declared.string.String.{String}
use Rattle.cedar_ast.proofs.Basics.{Contains-image}
use Rattle.cedar_ast.proofs.Lists.{Contains-cons, Contains-cons_cases, Contains-preimage}
use Rattle.cedar_ast.proofs.PlainNames.{uid_cmp-total}
use Rattle.cedar_schema_elements.proofs.AncestorLemmas.{node_more, node_plain}
use Rattle.cedar_schema_elements.proofs.KeyLemmas.{cmp, under}
use Rattle.cedar_schema_elements.specs.Words.{ActionEntity, ActionKind, AreActionEntities, Entities, Entity, EntityUID, HasNode, IsDefinedKind, IsEntityOf, IsEntityOfAction, IsAncestor, Lists, ListsBelow, PlainName, PlainUid, SchemaAction, SchemaEntityType, Twice, ValidatorActionId, Value, action_of, defined_action, entities_of, entity_at, entity_uid, entries_from, external_action, named_values, no_entry, plain_action_entity, plain_action_entry, schema_with, tree_of, uid_cmp, uid_of, upper_set, value_expr}
use Rattle.cedar_schema_semantics.proofs.OccurrenceLemmas.{Twice-sorted_by_name, uid_test}

abbrev Item : Type 0
Item = EntityUID × ValidatorActionId

-- the uid is that of an action that is defined
abbrev pub Defines : List Item → PlainUid → Type 0
Defines = HasNode uid_of (λ (it : ValidatorActionId). IsDefinedKind (action_of it).kind)

-- a uid is defined among one more where it was, or is that of the new one, which is
defines_more : (done : List Item) (key : EntityUID) (it : ValidatorActionId) (uid : PlainUid)
    → Defines (done ++ (key, it) ∷ []) uid ↔ (Defines done uid ⊎ ((uid_of key ≡ uid) × IsDefinedKind (action_of it).kind))
defines_more = node_more uid_of (λ (it : ValidatorActionId). IsDefinedKind (action_of it).kind)

-- actions define what they do as plain data
plain_defines : (actions : List Item) (uid : PlainUid)
    → Defines actions uid ↔ ((it : SchemaAction) × Contains (map plain_action_entry actions) (uid, it) × IsDefinedKind it.kind)
plain_defines =
    node_plain uid_of (λ (it : ValidatorActionId). IsDefinedKind (action_of it).kind) plain_action_entry
    (λ (it : SchemaAction). IsDefinedKind it.kind) (λ entry. refl) (λ entry. (λ is. is, λ is. is))

-- actions list what they do as plain data
plain_lists : (actions : List Item) (lower upper : PlainUid)
    → ListsBelow uid_of (λ (it : ValidatorActionId). (action_of it).descendants) actions lower upper ↔ Lists actions lower upper
plain_lists actions lower upper =
    node_plain uid_of (λ (it : ValidatorActionId). Contains (action_of it).descendants lower) plain_action_entry
    (λ (it : SchemaAction). Contains it.descendants lower) (λ entry. refl) (λ entry. (λ is. is, λ is. is)) actions upper

-- those above actions that are left are still there
pub record AncestorsLeft (all : List Item) (ancestors : BTreeMap EntityUID (BTreeSet EntityUID)) (left : List Item) : Type 0 where
  pub distinct : (uid : PlainUid) → ¬ Twice (map under (map plain_action_entry left)) uid
  pub still : (key : EntityUID) → Contains (map under (map plain_action_entry left)) (uid_of key) → (above : PlainUid)
      → IsAncestor cmp uid_of ancestors key above ↔ Lists all (uid_of key) above

module _ (all : List Item) where
  -- at first all are
  pub left_all : (left : List Item) (ancestors : BTreeMap EntityUID (BTreeSet EntityUID)) → left ≡ all
      → ((uid : PlainUid) → ¬ Twice (map under (map plain_action_entry all)) uid)
      → ((key : EntityUID) (above : PlainUid) → IsAncestor cmp uid_of ancestors key above
      ↔ ListsBelow uid_of (λ (it : ValidatorActionId). (action_of it).descendants) all (uid_of key) above)
      → AncestorsLeft all ancestors left
  left_all left ancestors same distinct stands = record {
    distinct = rw same distinct;
    still = λ key among above.
        let lists = plain_lists all (uid_of key) above in (
          λ upper. lists.0 ((stands key above).0 upper),
          λ listed. (stands key above).1 (lists.1 listed),
        );
  }

  module _ (left rest : List Item) (ancestors : BTreeMap EntityUID (BTreeSet EntityUID)) (key : EntityUID) (it : ValidatorActionId)
      (is : left ≡ (key, it) ∷ rest) (so_far : AncestorsLeft all ancestors left) where
    -- those above the next one are
    pub left_here : (above : PlainUid) → IsAncestor cmp uid_of ancestors key above ↔ Lists all (uid_of key) above
    left_here =
        so_far.still key
        (rw is (Contains-cons (uid_of key) (map under (map plain_action_entry rest)) (uid_of key) (inl refl)))

    -- where only these are taken out, the others are
    pub left_rest : (new : BTreeMap EntityUID (BTreeSet EntityUID))
        → ((other : EntityUID) → uid_of other ≢ uid_of key → upper_set cmp new other ≡ upper_set cmp ancestors other)
        → AncestorsLeft all new rest
    left_rest new others = record {
      distinct = λ uid twice. distinct_here uid (inr twice);
      still = λ other among above.
          rw (others other (λ same. distinct_here (uid_of key) (inl (refl, rw same at among)))) (so_far.still other
          (rw is (Contains-cons (uid_of key) (map under (map plain_action_entry rest)) (uid_of other) (inr among)))
          above);
    }
      where
        distinct_here : (uid : PlainUid) → ¬ Twice (uid_of key ∷ map under (map plain_action_entry rest)) uid
        distinct_here = rw is at so_far.distinct

-- a kind that isn't external is that of a defined action
pub defined_kind : (kind : ActionKind) → ¬ (kind ≡ external_action) → IsDefinedKind kind
defined_kind (defined_action principals resources context) other = tt
defined_kind external_action other = absurd (other refl)

-- and the external one is not
pub external_undefined : (kind : ActionKind) → kind ≡ external_action → ¬ IsDefinedKind kind
external_undefined kind is defined = rw is at defined

-- an entity just below those that stand above is one just below others that are the same
pub same_entity : (IsAbove Stands : PlainUid → Type 0) (uid : PlainUid) (it : ActionEntity)
    → ((above : PlainUid) → IsAbove above ↔ Stands above) → IsEntityOf IsAbove uid it → IsEntityOf Stands uid it
same_entity IsAbove Stands uid it same of_it = record {
  uid = of_it.uid;
  attributes = of_it.attributes;
  tags = of_it.tags;
  ancestors = λ above. (
    λ among. (same above).0 ((of_it.ancestors above).0 among),
    λ stands. (of_it.ancestors above).1 ((same above).1 stands),
  );
}

-- an empty map has no values
pub no_values : (values : BTreeMap (String Global) Value) → values.entries ≡ [] → named_values values ≡ no_entry
no_values values nothing =
    ap (λ entries. entries_from (map (λ (entry : String Global × Value). (string_bytes entry.0, tree_of (value_expr entry.1))) entries)) nothing

-- whether an entity has the uid
abbrev has_uid : PlainUid → Entity → Bool
has_uid uid entity = is_eq (uid_cmp uid (entity_uid entity))

-- where no two entities have one uid, each is found under its own
found_itself : (entities : List Entity) (entity : Entity) → ((uid : PlainUid) → ¬ Twice (map entity_uid entities) uid)
    → Contains entities entity → find (has_uid (entity_uid entity)) entities ≡ Some entity
found_itself [] entity once among = absurd (omega (arith, among.1))
found_itself (first ∷ rest) entity once among =
    by (has_uid (entity_uid entity) first) refl (elim (Contains-cons_cases first rest entity among) [
      | inl here ↦ inl here
      | inr later ↦ inr (later, found_itself rest entity (λ other twice. once other (inr twice)) later)
    ])
  where
    uid : PlainUid
    uid = entity_uid entity

    by : (b : Bool) → has_uid uid first ≡ b → (first ≡ entity) ⊎ (Contains rest entity × (find (has_uid uid) rest ≡ Some entity))
        → find (has_uid uid) (first ∷ rest) ≡ Some entity
    by true is either =
        cond-true (has_uid uid first) (Some first) (find (has_uid uid) rest) is ∙ (elim either [
          | inl here ↦ ap Some here
          | inr later ↦
              absurd (once uid (inl (sym ((uid_test uid (entity_uid first)).0 is), Contains-image entity_uid rest entity later.0)))
        ])
    by false is either =
        cond-false (has_uid uid first) (Some first) (find (has_uid uid) rest) is ∙ (elim either [
          | inl here ↦ absurd (false≢true (sym is ∙ (uid_test uid (entity_uid first)).1 (sym (ap entity_uid here))))
          | inr later ↦ later.1
        ])

-- what is found under a uid stands among the entities, and has the uid
found_among : (entities : List Entity) (uid : PlainUid) → IsSome (find (has_uid uid) entities)
    → (entity : Entity) × Contains entities entity × (entity_uid entity ≡ uid)
found_among [] uid found = absurd (false≢true found)
found_among (first ∷ rest) uid found = by (has_uid uid first) refl (found_among rest uid) where
  by : (b : Bool) → has_uid uid first ≡ b
      → (IsSome (find (has_uid uid) rest) → (entity : Entity) × Contains rest entity × (entity_uid entity ≡ uid))
      → (entity : Entity) × Contains (first ∷ rest) entity × (entity_uid entity ≡ uid)
  by true is in_rest = (first, Contains-cons first rest first (inl refl), sym ((uid_test uid (entity_uid first)).0 is))
  by false is in_rest =
      let later = in_rest (rw (cond-false (has_uid uid first) (Some first) (find (has_uid uid) rest) is) at found) in
      (later.0, Contains-cons first rest later.0 (inr later.1), later.2)

-- of some actions the entities are collected, and others are left
pub record EntitiesSoFar (all : List Item) (entities : Entities) (left : List Item) : Type 0 where
  pub done : List Item
  pub split : all ≡ done ++ left
  pub each : (uid : PlainUid) (entity : Entity) → entity_at entities uid ≡ Some entity
      → IsEntityOf (Lists all uid) uid (plain_action_entity entity) × Defines done uid
  pub complete : (uid : PlainUid) → Defines done uid → IsSome (entity_at entities uid)
  pub ordered : IsStrictlySortedBy uid_cmp (map entity_uid (entities_of entities))

module _ (all : List Item) where
  -- at first none is
  pub entities_none : (left : List Item) (entities : Entities) → left ≡ all → entities_of entities ≡ [] → EntitiesSoFar all entities left
  unfolding IsStrictlySortedBy
  entities_none left entities same nothing = record {
    done = [];
    split = sym same;
    each = λ uid entity found. absurd (false≢true (ap is_some (ap (find (has_uid uid)) (sym nothing) ∙ found)));
    complete = λ uid defined. absurd (omega (arith, defined.1.1));
    ordered = rw nothing tt;
  }

  module _ (left rest : List Item) (entities : Entities) (key : EntityUID) (it : ValidatorActionId)
      (is : left ≡ (key, it) ∷ rest) (so_far : EntitiesSoFar all entities left) where
    abbrev More : List Item
    More = so_far.done ++ (key, it) ∷ []

    next_entity_split : all ≡ More ++ rest
    next_entity_split = so_far.split ∙ (ap (λ others. so_far.done ++ others) is ∙ sym (append_assoc so_far.done ((key, it) ∷ []) rest))

    -- one more is passed, which is external
    pub entities_passed : (action_of it).kind ≡ external_action → EntitiesSoFar all entities rest
    entities_passed external = record {
      done = More;
      split = next_entity_split;
      each = λ uid entity found.
          let old = so_far.each uid entity found in (old.0, (defines_more so_far.done key it uid).1 (inl old.1));
      complete = λ uid defined. elim ((defines_more so_far.done key it uid).0 defined) [
        | inl left ↦ so_far.complete uid left
        | inr last ↦ absurd (external_undefined (action_of it).kind external last.1)
      ];
      ordered = so_far.ordered;
    }

    -- the entity of one more is put in
    pub entities_put : ¬ ((action_of it).kind ≡ external_action) → (new : Entities) (entity : Entity)
        → IsEntityOf (Lists all (uid_of key)) (uid_of key) (plain_action_entity entity)
        → entity_at new (entity_uid entity) ≡ Some entity
        → ((uid : PlainUid) → uid ≢ entity_uid entity → entity_at new uid ≡ entity_at entities uid)
        → IsStrictlySortedBy uid_cmp (map entity_uid (entities_of new)) → EntitiesSoFar all new rest
    entities_put other new entity of_it inserted others ordered = record {
      done = More;
      split = next_entity_split;
      each = λ uid found_one found. each_at uid found_one (is_eq (uid_cmp uid (entity_uid entity))) refl found;
      complete = λ uid defined. complete_at uid (is_eq (uid_cmp uid (entity_uid entity))) refl defined;
      ordered = ordered;
    }
      where
        its_own : uid_of key ≡ entity_uid entity
        its_own = sym of_it.uid

        here : (uid : PlainUid) → uid ≡ entity_uid entity → entity_at new uid ≡ Some entity
        here uid same = ap (entity_at new) same ∙ inserted

        apart : (uid : PlainUid) → is_eq (uid_cmp uid (entity_uid entity)) ≡ false → uid ≢ entity_uid entity
        apart uid is_other same = false≢true (sym is_other ∙ (uid_test uid (entity_uid entity)).1 same)

        each_at : (uid : PlainUid) (found_one : Entity) (b : Bool) → is_eq (uid_cmp uid (entity_uid entity)) ≡ b
            → entity_at new uid ≡ Some found_one → IsEntityOf (Lists all uid) uid (plain_action_entity found_one) × Defines More uid
        each_at uid found_one true is_it found =
            let same = (uid_test uid (entity_uid entity)).0 is_it in
            let one : entity ≡ found_one = same_Some entity found_one (sym (here uid same) ∙ found) in (
              subst (λ each. IsEntityOf (Lists all uid) uid (plain_action_entity each)) one (subst (λ each. IsEntityOf (Lists all each) each (plain_action_entity entity)) (its_own ∙ sym same) of_it),
              subst (Defines More) (its_own ∙ sym same) ((defines_more so_far.done key it (uid_of key)).1 (inr (refl, defined_kind (action_of it).kind other))),
            )
        each_at uid found_one false is_other found =
            let old = so_far.each uid found_one (sym (others uid (apart uid is_other)) ∙ found) in
            (old.0, (defines_more so_far.done key it uid).1 (inl old.1))

        complete_at : (uid : PlainUid) (b : Bool) → is_eq (uid_cmp uid (entity_uid entity)) ≡ b → Defines More uid
            → IsSome (entity_at new uid)
        complete_at uid true is_it defined = ap is_some (here uid ((uid_test uid (entity_uid entity)).0 is_it))
        complete_at uid false is_other defined =
            ap is_some (others uid (apart uid is_other)) ∙ (elim ((defines_more so_far.done key it uid).0 defined) [
              | inl left ↦ so_far.complete uid left
              | inr last ↦ absurd (apart uid is_other (sym last.0 ∙ its_own))
            ])

  -- where none is left, they are the entities of the actions
  pub entities_all : (left : List Item) (entities : Entities) → left ≡ [] → EntitiesSoFar all entities left
      → (types : List (PlainName × SchemaEntityType)) → AreActionEntities (schema_with types all (map plain_action_entity (entities_of entities)))
  entities_all left entities nothing so_far types = record {
    entities = λ it among.
        let entity = Contains-preimage plain_action_entity (entities_of entities) it among in
        let both = so_far.each (entity_uid entity.0) entity.0 (found_itself (entities_of entities) entity.0 once entity.1) in
        let IsEntity : ActionEntity → Type 0 = IsEntityOfAction (schema_with types all (map plain_action_entity (entities_of entities))) in
        let made : IsEntity (plain_action_entity entity.0) = record {
          defined = (plain_defines all (entity_uid entity.0)).0 (rw whole at both.1);
          attributes = both.0.attributes;
          tags = both.0.tags;
          ancestors = both.0.ancestors;
        } in
        rw entity.2 at made;
    each = λ uid defined.
        let found = found_among (entities_of entities) uid (so_far.complete uid (rw whole ((plain_defines all uid).1 defined))) in
        rw found.2 at (Contains-image (λ (it : ActionEntity). it.uid) (map plain_action_entity (entities_of entities)) (plain_action_entity found.0)
        (Contains-image plain_action_entity (entities_of entities) found.0 found.1));
    in_order = rw (map-map (λ (it : ActionEntity). it.uid) plain_action_entity (entities_of entities)) so_far.ordered;
  }
    where
      whole : so_far.done ≡ all
      whole = sym (so_far.split ∙ (ap (λ others. so_far.done ++ others) nothing ∙ append-nil so_far.done))

      once : (uid : PlainUid) → ¬ Twice (map entity_uid (entities_of entities)) uid
      once uid = Twice-sorted_by_name uid_cmp uid_cmp-total (map entity_uid (entities_of entities)) uid so_far.ordered
