-- Uids that a new version of a schema loses, kept by their entity types.
use Rattle.std.proofs.Common.{◌≡◌, ◌⊎◌, Bool, true, false, cond, List, [], ◌∷◌, Option, Some, None, inl, inr, refl, ap, subst, sym, ◌∙◌, map, Contains, codes}
use Rattle.std.proofs.Math.Logic.{∥∥₁_elim}
use Rattle.std.proofs.Props.{props}
use Rattle.std.proofs.lemmas.Bool.{false≢true}
use Rattle.std.proofs.lemmas.Option.{same_Some}
use Rattle.std.specs.BTreeMap.{BTreeMap, get, get_by, is_at}
use Rattle.std.specs.Map.{lookup}
use Rattle.std.specs.Option.{option_map}
use Rattle.std.specs.Ordering.{is_eq}
use Rattle.cedar_ast.proofs.Basics.{Contains-image}
use Rattle.cedar_ast.proofs.Names.{entity_type_ord-name_cmp}
use Rattle.cedar_ast.specs.contracts.entity_type.EntityTypeOrd.TheImpl as type_ord
use Rattle.cedar_compare.proofs.ExistingLemmas.{any_id, kept_of_none, lacks_of, lost_of_some}
use Rattle.cedar_compare.proofs.RequestLemmas.{lacking}
use Rattle.cedar_compare.proofs.UpperLemmas.{kept_at, none_at}
use Rattle.cedar_compare.specs.SchemaUids.{exists_plain}
use Rattle.cedar_compare.specs.Words.{AreLostSoFar, AreLostUids, EntityType, EntityUID, EnumeratesNone, Exists, IsActionType, IsKeptAt, IsLostIn, IsLostUidOf, IsUidOutside, KeepsIdsOf, KeepsUids, PlainName, PlainSchema, PlainUid, SchemaEntityType, name_cmp, type_name, uid_of, upper_at}
use Rattle.cedar_schema_semantics.proofs.OccurrenceLemmas.{name_test}
use Rattle.cedar_type_rules.proofs.AnsweredLemmas.{decide_names}
use Rattle.cedar_type_rules.proofs.Decisions.{decide_among}
use Rattle.cedar_type_rules.proofs.RecordAnswers.{decide_texts}

-- what is kept is found by the names of entity types
pub found_at : (lost : BTreeMap EntityType EntityUID) (key : EntityType) → option_map uid_of (get (type_ord.ghosts).cmp lost key) ≡ upper_at lost key
found_at = kept_at type_name (type_ord.ghosts).cmp name_cmp entity_type_ord-name_cmp

-- what is kept depends on the name alone
at_name : (lost : BTreeMap EntityType EntityUID) (one other : EntityType) → type_name one ≡ type_name other
    → upper_at lost one ≡ upper_at lost other
at_name lost one other same = ap (λ (n : PlainName). option_map uid_of (get_by (λ it. name_cmp n (type_name it)) lost)) same

module _ (old new : PlainSchema) where
  -- at first each lost uid is left
  pub lost_first : (IsLeft : PlainUid → Type 0) (lost : BTreeMap EntityType EntityUID) → lost.entries ≡ []
      → ((uid : PlainUid) → IsLostIn old new uid → IsLeft uid) → AreLostSoFar old new IsLeft lost
  lost_first IsLeft lost empty left = record {
    each = λ name uid found.
        let none : upper_at lost name ≡ None = none_at type_name (type_ord.ghosts).cmp name_cmp entity_type_ord-name_cmp lost name empty in
        absurd cc;
    all = λ uid is_lost. inl (left uid is_lost);
  }

  -- of the lost uids that were left, each is left still or its type has one
  pub lost_on : (IsLeft AreLeft : PlainUid → Type 0) (lost : BTreeMap EntityType EntityUID)
      → ((uid : PlainUid) → IsLostIn old new uid → IsLeft uid → AreLeft uid ⊎ IsKeptAt lost uid.ty)
      → AreLostSoFar old new IsLeft lost → AreLostSoFar old new AreLeft lost
  lost_on IsLeft AreLeft lost on so_far = record {
    each = so_far.each;
    all = λ uid is_lost. elim (so_far.all uid is_lost) [ inl left ↦ on uid is_lost left | inr there ↦ inr there ];
  }

  -- a lost uid is put under its type
  module _ (IsLeft AreLeft : PlainUid → Type 0) (before after : BTreeMap EntityType EntityUID) (key : EntityType) (uid : EntityUID)
      (updates : (q : EntityType) → get (type_ord.ghosts).cmp after q
      ≡ cond (is_at ((type_ord.ghosts).cmp key) q) (Some uid) (get (type_ord.ghosts).cmp before q)) where
    -- it is found there, and elsewhere what was
    at_after : (q : EntityType) → ((type_name key ≡ type_name q) × (upper_at after q ≡ Some (uid_of uid)))
        ⊎ ((¬ (type_name key ≡ type_name q)) × (upper_at after q ≡ upper_at before q))
    at_after q = cases (is_at ((type_ord.ghosts).cmp key) q) refl
      where
        same_key : is_at ((type_ord.ghosts).cmp key) q ≡ is_eq (name_cmp (type_name key) (type_name q))
        same_key = ap is_eq (entity_type_ord-name_cmp key q)

        found : (b : Bool) → is_at ((type_ord.ghosts).cmp key) q ≡ b
            → upper_at after q ≡ option_map uid_of (cond b (Some uid) (get (type_ord.ghosts).cmp before q))
        found b is = sym (found_at after q) ∙ ap (option_map uid_of) (updates q ∙ ap (λ t. cond t (Some uid) (get (type_ord.ghosts).cmp before q)) is)

        cases : (b : Bool) → is_at ((type_ord.ghosts).cmp key) q ≡ b
            → ((type_name key ≡ type_name q) × (upper_at after q ≡ Some (uid_of uid)))
            ⊎ ((¬ (type_name key ≡ type_name q)) × (upper_at after q ≡ upper_at before q))
        cases true is = inl ((name_test (type_name key) (type_name q)).0 (sym same_key ∙ is), found true is)
        cases false is = inr (
          λ same. false≢true (sym is ∙ (same_key ∙ (name_test (type_name key) (type_name q)).1 same)),
          found false is ∙ found_at before q,
        )

    pub lost_put : IsLostUidOf (Exists old) (Exists new) (type_name key) (uid_of uid)
        → ((it : PlainUid) → IsLostIn old new it → ¬ (it.ty ≡ type_name key) → IsLeft it → AreLeft it ⊎ IsKeptAt before it.ty)
        → AreLostSoFar old new IsLeft before → AreLostSoFar old new AreLeft after
    lost_put lost on so_far = record {
      each = λ q it found. elim (at_after q) [
        | inl here ↦
            let same = same_Some (uid_of uid) it (sym here.1 ∙ found) in
            subst (IsLostUidOf (Exists old) (Exists new) (type_name q)) same
            (subst (λ (n : PlainName). IsLostUidOf (Exists old) (Exists new) n (uid_of uid)) here.0 lost)
        | inr other ↦ so_far.each q it (sym other.1 ∙ found)
      ];
      all = λ it is_lost. elim (decide_names it.ty (type_name key)) [
        | inl same ↦ inr (
          key,
          sym same,
          λ none. elim (at_after key) [
            | inl here ↦ let wrong : Some (uid_of uid) ≡ None = sym here.1 ∙ none in absurd cc
            | inr other ↦ other.0 refl
          ],
        )
        | inr differ ↦
            let still : IsKeptAt before it.ty → IsKeptAt after it.ty = λ (k, named, there). (
              k,
              named,
              λ none. elim (at_after k) [
                | inl here ↦ differ (sym (here.0 ∙ named))
                | inr other ↦ there (sym other.1 ∙ none)
              ],
            ) in
            elim (so_far.all it is_lost) [
              | inl left ↦ elim (on it is_lost differ left) [ inl later ↦ inl later | inr there ↦ inr (still there) ]
              | inr there ↦ inr (still there)
            ]
      ];
    }

  -- a uid of a type that isn't one of actions is lost where its type lacks it in the new schema
  pub lost_choice : (name : PlainName) (uid : PlainUid) → ¬ IsActionType name → IsUidOutside old new name (Some uid)
      → IsLostUidOf (Exists old) (Exists new) name uid
  lost_choice name uid plain (of, lacks) = (
    of.0,
    (
      exists_plain old uid (λ of_actions. plain (subst IsActionType of.0 of_actions)) of.1,
      λ exists. lacking new uid lacks exists.choice,
    ),
  )

  -- a lost uid is one of an action, or its type is one of the new schema
  pub named_or_kept : (uid : PlainUid) → IsLostIn old new uid → IsActionType uid.ty ⊎ Contains (map (λ it. it.0) new.entity_types) uid.ty
  named_or_kept uid lost = elim (decide_texts uid.ty.base (codes "Action")) [
    | inl of_actions ↦ inl of_actions
    | inr plain ↦
        elim (decide_among decide_names (map (λ it. it.0) new.entity_types) uid.ty) [
          | inl there ↦ inr there
          | inr absent ↦
              absurd (lost.1 (exists_plain new uid plain (λ it there. absurd (absent
              (Contains-image (λ (entry : PlainName × SchemaEntityType). entry.0) new.entity_types (uid.ty, it) there)))))
        ]
  ]

  -- where nothing is enumerated in the new schema, only uids of actions are lost
  pub actions_lost : EnumeratesNone new → (uid : PlainUid) → IsLostIn old new uid → IsActionType uid.ty
  actions_lost none uid lost = elim (decide_texts uid.ty.base (codes "Action")) [
    | inl of_actions ↦ of_actions
    | inr plain ↦ absurd (lost.1 (exists_plain new uid plain (any_id new uid none)))
  ]

  -- where it lacks none, none is
  pub no_lost_choice : (name : PlainName) (uid : PlainUid) → ¬ IsActionType name → IsUidOutside old new name None → uid.ty ≡ name
      → ¬ IsLostIn old new uid
  no_lost_choice name uid plain none named lost =
      lost.1 (exists_plain new uid (λ of_actions. plain (subst IsActionType named of_actions)) (none uid (named, lost.0.choice)))

  -- what is known of the uids that are kept under entity types, if it can't be told which they are
  module _ (lost : BTreeMap EntityType EntityUID) (are : ∥ AreLostUids old new lost ∥₁) where
    -- where nothing is kept under an entity type, its ids are kept
    pub kept_id : (name : EntityType) → upper_at lost name ≡ None → (uid : PlainUid) → uid.ty ≡ type_name name → Exists old uid → Exists new uid
    kept_id name none uid named exists = kept_of_none old new uid
        (λ is_lost. ∥∥₁_elim are (Prim.hlevel props) (λ known. elim (known.all uid is_lost) [
          | inl wrong ↦ wrong
          | inr (key, same, there) ↦ there (at_name lost key name (same ∙ named) ∙ none)
        ])) exists

    pub ids_kept : (name : EntityType) → upper_at lost name ≡ None → KeepsIdsOf (Exists old) (Exists new) (type_name name)
    ids_kept name none uid real (named, exists) = kept_id name none uid named exists

    -- what is kept under an entity type is a lost uid of it
    pub lost_there : (name : EntityType) (uid : PlainUid) → upper_at lost name ≡ Some uid → IsLostUidOf (Exists old) (Exists new) (type_name name) uid
    lost_there name uid found = (
      elim (decide_names uid.ty (type_name name)) [
        | inl same ↦ same
        | inr differ ↦ absurd (∥∥₁_elim are (Prim.hlevel props) (λ known. differ (known.each name uid found).0))
      ],
      lost_of_some old new uid (λ none. ∥∥₁_elim are (Prim.hlevel props) (λ known. none (known.each name uid found).1)),
    )

    -- so of a type that isn't one of actions what is kept is a uid that its type lacks, or there is
    -- none
    pub outside_there : (name : EntityType) → ¬ IsActionType (type_name name) → IsUidOutside old new (type_name name) (upper_at lost name)
    outside_there name plain = cases (upper_at lost name) refl
      where
        cases : (o : Option PlainUid) → upper_at lost name ≡ o → IsUidOutside old new (type_name name) o
        cases None is = λ uid of.
            (kept_id name is uid of.0 (exists_plain old uid (λ of_actions. plain (subst IsActionType of.0 of_actions)) of.1)).choice
        cases (Some uid) is =
            let it = lost_there name uid is in
            let not_action : ¬ IsActionType uid.ty = λ of_actions. plain (subst IsActionType it.0 of_actions) in
            ((it.0, it.1.0.choice), lacks_of new uid (λ may. it.1.1 (exists_plain new uid not_action may)))

    -- where nothing is kept at all, all uids are
    pub uids_kept : lost.entries ≡ [] → KeepsUids (Exists old) (Exists new)
    uids_kept empty uid real exists = kept_of_none old new uid
        (λ is_lost. ∥∥₁_elim are (Prim.hlevel props) (λ known. elim (known.all uid is_lost) [
          | inl wrong ↦ wrong
          | inr (key, same, there) ↦ there (none_at type_name (type_ord.ghosts).cmp name_cmp entity_type_ord-name_cmp lost key empty)
        ])) exists

    -- what is kept first is lost
    pub lost_at_first : (first : EntityType × EntityUID) (rest : List (EntityType × EntityUID)) → lost.entries ≡ first ∷ rest
        → IsLostIn old new (uid_of first.1)
    lost_at_first first rest is =
        let found : upper_at lost first.0 ≡ Some (uid_of first.1) =
        ap (λ entries. option_map uid_of (lookup (is_at (λ it. name_cmp (type_name first.0) (type_name it))) entries)) is
        ∙ ap (λ b. option_map uid_of (cond b (Some first.1) (lookup (is_at (λ it. name_cmp (type_name first.0) (type_name it))) rest)))
        ((name_test (type_name first.0) (type_name first.0)).1 refl) in
        (lost_there first.0 (uid_of first.1) found).1
