-- What is found above actions, one action after another.
use Rattle.std.proofs.Common.{◌≡◌, ◌⊎◌, Bool, true, false, cond, List, [], ◌∷◌, Option, Some, None, is_some, inl, inr, refl, ap, subst, sym, ◌∙◌, ⊎_elim, map, Contains, arith}
use Rattle.std.proofs.lemmas.Bool.{false≢true}
use Rattle.std.specs.BTreeMap.{BTreeMap, get, get_by, is_at}
use Rattle.std.specs.Map.{lookup}
use Rattle.std.specs.Option.{option_map}
use Rattle.std.specs.Ordering.{is_eq}
use Rattle.cedar_ast.proofs.Basics.{Contains-image, Contains-none}
use Rattle.cedar_ast.proofs.Lists.{Contains-cons_cases}
use Rattle.cedar_ast.proofs.Uids.{entity_uid_ord-uid_cmp}
use Rattle.cedar_ast.specs.contracts.entity_uid.EntityUIDOrd.TheImpl as uid_ord
use Rattle.cedar_compare.specs.Words.{AreActionAncestorsSoFar, EntityUID, IsActionAncestorSoFar, IsKeyed, ListsApart, ListsDescendantAction, PlainSchema, PlainUid, SchemaAction, action_upper_at, uid_cmp, uid_of}
use Rattle.cedar_schema_semantics.proofs.OccurrenceLemmas.{uid_test}

-- what is apart in two schemas is apart in them turned round
pub apart_turned : (one other : PlainSchema) (lower upper : PlainUid) → ListsApart one other lower upper → ListsApart other one lower upper
apart_turned one other lower upper apart = ⊎_elim (λ first. inr first) (λ second. inl second) apart

-- what is found stays found where of the actions that were left each is left still or listed
pub action_found_on : (one other : PlainSchema) (uid : PlainUid) (IsLeft AreLeft : PlainUid → Type 0) (o : Option PlainUid)
    → (o ≡ None → (upper : PlainUid) → ListsDescendantAction one uid upper → IsLeft upper
    → AreLeft upper ⊎ ListsDescendantAction other uid upper)
    → IsActionAncestorSoFar one other IsLeft uid o → IsActionAncestorSoFar one other AreLeft uid o
action_found_on one other uid IsLeft AreLeft None on so_far =
    λ upper above. ⊎_elim (on refl upper above) (λ there. inr there) (so_far upper above)
action_found_on one other uid IsLeft AreLeft (Some it) on so_far = so_far

-- what is kept is found by the uids that keys stand for
pub action_kept_at : (ancestors : BTreeMap EntityUID EntityUID) (uid : EntityUID)
    → option_map uid_of (get ((uid_ord.ghosts).cmp) ancestors uid) ≡ action_upper_at ancestors uid
action_kept_at ancestors uid = ap (λ compare. option_map uid_of (get_by compare ancestors)) (λ i key. entity_uid_ord-uid_cmp uid key i)

-- one action is kept under a uid
module _ (one other : PlainSchema) (IsLeft AreLeft : PlainUid → PlainUid → Type 0) (before after : BTreeMap EntityUID EntityUID)
    (key uid : EntityUID)
    (updates : (q : EntityUID) → get ((uid_ord.ghosts).cmp) after q
    ≡ cond (is_at ((uid_ord.ghosts).cmp key) q) (Some uid) (get ((uid_ord.ghosts).cmp) before q)) where
  pub action_put : ListsApart one other (uid_of key) (uid_of uid)
      → ((it : EntityUID) → ¬ (uid_of key ≡ uid_of it) → (upper : PlainUid) → IsLeft (uid_of it) upper → AreLeft (uid_of it) upper)
      → AreActionAncestorsSoFar one other IsLeft before → AreActionAncestorsSoFar one other AreLeft after
  action_put apart on so_far it = cases (is_at ((uid_ord.ghosts).cmp key) it) refl
    where
      Q : Option PlainUid → Type 0
      Q = IsActionAncestorSoFar one other (AreLeft (uid_of it)) (uid_of it)

      same_key : is_at ((uid_ord.ghosts).cmp key) it ≡ is_eq (uid_cmp (uid_of key) (uid_of it))
      same_key = ap is_eq (entity_uid_ord-uid_cmp key it)

      cases : (b : Bool) → is_at ((uid_ord.ghosts).cmp key) it ≡ b → Q (action_upper_at after it)
      cases true is =
          let same : uid_of key ≡ uid_of it = (uid_test (uid_of key) (uid_of it)).0 (sym same_key ∙ is) in
          let found : get ((uid_ord.ghosts).cmp) after it ≡ Some uid =
          updates it ∙ ap (λ b. cond b (Some uid) (get ((uid_ord.ghosts).cmp) before it)) is in
          let put : Q (Some (uid_of uid)) = subst (λ u. ListsApart one other u (uid_of uid)) same apart in
          subst Q (action_kept_at after it) (subst (λ found. Q (option_map uid_of found)) (sym found) put)
      cases false is =
          let different : ¬ (uid_of key ≡ uid_of it) = λ same.
          false≢true (sym is ∙ (same_key ∙ (uid_test (uid_of key) (uid_of it)).1 same)) in
          let found : get ((uid_ord.ghosts).cmp) after it ≡ get ((uid_ord.ghosts).cmp) before it =
          updates it ∙ ap (λ b. cond b (Some uid) (get ((uid_ord.ghosts).cmp) before it)) is in
          let as_before : action_upper_at before it ≡ action_upper_at after it =
          sym (action_kept_at before it) ∙ (ap (option_map uid_of) (sym found) ∙ action_kept_at after it) in
          subst Q as_before
          (action_found_on one other (uid_of it) (IsLeft (uid_of it)) (AreLeft (uid_of it)) (action_upper_at before it)
          (λ none upper above left. inl (on it different upper left)) (so_far it))

-- the actions that are left while the descendants of one are gone over: that one above one of those
-- that are left, or an action that is left
abbrev pub IsActionLeft : PlainUid → List PlainUid → List PlainUid → PlainUid → PlainUid → Type 0
IsActionLeft uid lowers left lower upper = ((uid ≡ upper) × Contains lowers lower) ⊎ Contains left upper

module _ (one other : PlainSchema) (uid : PlainUid) (left : List PlainUid) where
  -- a descendant that the other schema lists too is gone past
  pub action_past_kept : (first : PlainUid) (rest : List PlainUid) (ancestors : BTreeMap EntityUID EntityUID)
      → ListsDescendantAction other first uid
      → AreActionAncestorsSoFar one other (IsActionLeft uid (first ∷ rest) left) ancestors
      → AreActionAncestorsSoFar one other (IsActionLeft uid rest left) ancestors
  action_past_kept first rest ancestors listed so_far key =
      action_found_on one other (uid_of key) (IsActionLeft uid (first ∷ rest) left (uid_of key)) (IsActionLeft uid rest left (uid_of key))
      (action_upper_at ancestors key)
      (λ none upper above is_left. ⊎_elim
      (λ here. ⊎_elim
      (λ same. inr (subst (λ u. ListsDescendantAction other u upper) same (subst (λ u. ListsDescendantAction other first u) here.0 listed)))
      (λ later. inl (inl (here.0, later)))
      (Contains-cons_cases first rest (uid_of key) here.1))
      (λ other'. inl (inr other'))
      is_left)
      (so_far key)

  -- a descendant under whose uid something is kept is gone past
  pub action_past_there : (first : EntityUID) (rest : List PlainUid) (ancestors : BTreeMap EntityUID EntityUID)
      → ¬ (action_upper_at ancestors first ≡ None)
      → AreActionAncestorsSoFar one other (IsActionLeft uid (uid_of first ∷ rest) left) ancestors
      → AreActionAncestorsSoFar one other (IsActionLeft uid rest left) ancestors
  action_past_there first rest ancestors there so_far key =
      action_found_on one other (uid_of key) (IsActionLeft uid (uid_of first ∷ rest) left (uid_of key)) (IsActionLeft uid rest left (uid_of key))
      (action_upper_at ancestors key)
      (λ none upper above is_left. ⊎_elim
      (λ here. ⊎_elim
      (λ same. absurd (there (ap (λ n. option_map uid_of (get_by (λ other'. uid_cmp n (uid_of other')) ancestors)) same ∙ none)))
      (λ later. inl (inl (here.0, later)))
      (Contains-cons_cases (uid_of first) rest (uid_of key) here.1))
      (λ other'. inl (inr other'))
      is_left)
      (so_far key)

  -- a descendant under whose uid an action is put is gone past
  pub action_left_past : (first : EntityUID) (rest : List PlainUid) (key : EntityUID) → ¬ (uid_of first ≡ uid_of key) → (upper : PlainUid)
      → IsActionLeft uid (uid_of first ∷ rest) left (uid_of key) upper → IsActionLeft uid rest left (uid_of key) upper
  action_left_past first rest key different upper is_left = ⊎_elim
      (λ here. ⊎_elim (λ same. absurd (different same)) (λ later. inl (here.0, later)) (Contains-cons_cases (uid_of first) rest (uid_of key) here.1))
      (λ left'. inr left')
      is_left

  -- at first all descendants are left
  pub action_left_first : (lowers : List PlainUid) (ancestors : BTreeMap EntityUID EntityUID)
      → ((lower : PlainUid) → ListsDescendantAction one lower uid → Contains lowers lower)
      → AreActionAncestorsSoFar one other (λ lower upper. Contains (uid ∷ left) upper) ancestors
      → AreActionAncestorsSoFar one other (IsActionLeft uid lowers left) ancestors
  action_left_first lowers ancestors listed so_far key =
      action_found_on one other (uid_of key) (Contains (uid ∷ left)) (IsActionLeft uid lowers left (uid_of key)) (action_upper_at ancestors key)
      (λ none upper above is_left. inl (⊎_elim
      (λ same. inl (same, listed (uid_of key) (subst (ListsDescendantAction one (uid_of key)) (sym same) above)))
      (λ later. inr later)
      (Contains-cons_cases uid left upper is_left)))
      (so_far key)

  -- in the end none is
  pub action_left_none : (lowers : List PlainUid) (ancestors : BTreeMap EntityUID EntityUID) → lowers ≡ []
      → AreActionAncestorsSoFar one other (IsActionLeft uid lowers left) ancestors
      → AreActionAncestorsSoFar one other (λ lower upper. Contains left upper) ancestors
  action_left_none lowers ancestors nothing so_far key =
      action_found_on one other (uid_of key) (IsActionLeft uid lowers left (uid_of key)) (Contains left) (action_upper_at ancestors key)
      (λ none upper above is_left. inl (⊎_elim
      (λ here. absurd (let wrong : Contains [] (uid_of key) = subst (λ xs. Contains xs (uid_of key)) nothing here.1 in omega (arith, wrong.1)))
      (λ later. later)
      is_left))
      (so_far key)

  -- the descendants of an action are those that the schema lists
  pub descendants_of_it : (it : SchemaAction) → IsKeyed one → Contains one.actions (uid, it) → (lower : PlainUid)
      → ListsDescendantAction one lower uid → Contains it.descendants lower
  descendants_of_it it keyed there lower listed =
      subst (λ (a : SchemaAction). Contains a.descendants lower) (keyed.actions uid listed.0 it listed.1 there) listed.2

-- a uid under which nothing is found isn't one of the map's
pub none_kept : (ancestors : BTreeMap EntityUID EntityUID) (uid : EntityUID) → action_upper_at ancestors uid ≡ None
    → is_some (get ((uid_ord.ghosts).cmp) ancestors uid) ≡ false
none_kept ancestors uid none = nothing (get ((uid_ord.ghosts).cmp) ancestors uid) (action_kept_at ancestors uid ∙ none)
  where
    nothing : (o : Option EntityUID) → option_map uid_of o ≡ None → is_some o ≡ false
    nothing None is = refl
    nothing (Some it) is = let wrong : Some (uid_of it) ≡ None = is in absurd cc

-- a uid that the schema hasn't is gone past
pub action_past_none : (one other : PlainSchema) (uid : PlainUid) (rest : List PlainUid) (ancestors : BTreeMap EntityUID EntityUID)
    → ((it : SchemaAction) → ¬ Contains one.actions (uid, it))
    → AreActionAncestorsSoFar one other (λ lower upper. Contains (uid ∷ rest) upper) ancestors
    → AreActionAncestorsSoFar one other (λ lower upper. Contains rest upper) ancestors
action_past_none one other uid rest ancestors none so_far key =
    action_found_on one other (uid_of key) (Contains (uid ∷ rest)) (Contains rest) (action_upper_at ancestors key)
    (λ nothing upper above is_left. ⊎_elim
    (λ same. absurd (none above.0 (subst (λ u. Contains one.actions (u, above.0)) (sym same) above.1)))
    (λ later. inl later)
    (Contains-cons_cases uid rest upper is_left))
    (so_far key)

-- what may be left are the actions of the schema
pub actions_left : (one other : PlainSchema) (uids : List PlainUid) (ancestors : BTreeMap EntityUID EntityUID)
    → map (λ it. it.0) one.actions ≡ uids
    → AreActionAncestorsSoFar one other (λ lower upper. Unit {0}) ancestors
    → AreActionAncestorsSoFar one other (λ lower upper. Contains uids upper) ancestors
actions_left one other uids ancestors are so_far key =
    action_found_on one other (uid_of key) (λ upper. Unit {0}) (Contains uids) (action_upper_at ancestors key)
    (λ none upper above is_left. inl (subst (λ xs. Contains xs upper) are
    (Contains-image (λ (it : PlainUid × SchemaAction). it.0) one.actions (upper, above.0) above.1)))
    (so_far key)

-- where no action is left, none is for any
pub no_action_left : (one other : PlainSchema) (left : List PlainUid) (ancestors : BTreeMap EntityUID EntityUID) → left ≡ []
    → AreActionAncestorsSoFar one other (λ lower upper. Contains left upper) ancestors → AreActionAncestorsSoFar one other (λ lower upper. ⊥) ancestors
no_action_left one other left ancestors nothing so_far key =
    action_found_on one other (uid_of key) (Contains left) (λ upper. ⊥) (action_upper_at ancestors key)
    (λ none upper above is_left. absurd (Contains-none upper (subst (λ xs. Contains xs upper) nothing is_left)))
    (so_far key)

-- what is found at a uid
pub action_upper_found : (one other : PlainSchema) (ancestors : BTreeMap EntityUID EntityUID) (uid : EntityUID) (o : Option EntityUID)
    → AreActionAncestorsSoFar one other (λ lower upper. ⊥) ancestors → o ≡ get ((uid_ord.ghosts).cmp) ancestors uid
    → IsActionAncestorSoFar one other (λ upper. ⊥) (uid_of uid) (option_map uid_of o)
action_upper_found one other ancestors uid o all is =
    subst (IsActionAncestorSoFar one other (λ upper. ⊥) (uid_of uid)) (sym (ap (option_map uid_of) is ∙ action_kept_at ancestors uid)) (all uid)

-- in an empty map nothing is found, so what is found of two schemas turned round is found too
pub action_none_at : (ancestors : BTreeMap EntityUID EntityUID) (uid : EntityUID) → ancestors.entries ≡ [] → action_upper_at ancestors uid ≡ None
action_none_at ancestors uid none = ap (λ (entries : List (EntityUID × EntityUID)).
    option_map uid_of (lookup (is_at (λ key. uid_cmp (uid_of uid) (uid_of key))) entries)) none

-- at first anything may be left
pub anything_left : (one other : PlainSchema) (ancestors : BTreeMap EntityUID EntityUID) → ancestors.entries ≡ []
    → AreActionAncestorsSoFar one other (λ lower upper. Unit {0}) ancestors
anything_left one other ancestors empty uid =
    subst (IsActionAncestorSoFar one other (λ upper. Unit {0}) (uid_of uid)) (sym (action_none_at ancestors uid empty)) (λ upper above. inl tt)

-- what is found between two schemas is found between them turned round, where anything may be left
pub turned_left : (one other : PlainSchema) (ancestors : BTreeMap EntityUID EntityUID)
    → AreActionAncestorsSoFar one other (λ lower upper. ⊥) ancestors → AreActionAncestorsSoFar other one (λ lower upper. Unit {0}) ancestors
turned_left one other ancestors all uid = turned (action_upper_at ancestors uid) (all uid)
  where
    turned : (o : Option PlainUid) → IsActionAncestorSoFar one other (λ upper. ⊥) (uid_of uid) o
        → IsActionAncestorSoFar other one (λ upper. Unit {0}) (uid_of uid) o
    turned None so_far = λ upper above. inl tt
    turned (Some upper) apart = apart_turned one other (uid_of uid) upper apart
