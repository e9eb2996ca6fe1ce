-- What is found above nodes, one node after another, where for each one that is lost is kept.
use Rattle.std.proofs.Common.{◌≡◌, ◌⊎◌, Bool, true, false, cond, List, [], ◌∷◌, Option, Some, None, is_some, inl, inr, refl, ap, subst, sym, ◌∙◌, ⊎_elim, Contains}
use Rattle.std.proofs.lemmas.Bool.{false≢true}
use Rattle.std.specs.BTreeMap.{BTreeMap, get, get_by, is_at}
use Rattle.std.specs.Bool.{Decides}
use Rattle.std.specs.Map.{lookup}
use Rattle.std.specs.Option.{option_map}
use Rattle.std.specs.Ordering.{is_eq}
use Rattle.std.specs.declared.cmp.Ordering.{Ordering}
use Rattle.cedar_ast.proofs.Basics.{Contains-none}
use Rattle.cedar_ast.proofs.Lists.{Contains-cons_cases}
use Rattle.cedar_compare.specs.Words.{AreUppersSoFar, EntityUID, IsUpperSoFar, PlainUid, kept_under, uid_of}

-- what is kept under keys, whose order is that of their names
module _ {K P : Type 0} (name : K → P) (order : K → K → Ordering) (cmp : P → P → Ordering)
    (ordered : (a b : K) → order a b ≡ cmp (name a) (name b)) where
  -- it is found by the names that keys stand for
  pub kept_at : (uppers : BTreeMap K EntityUID) (key : K) → option_map uid_of (get order uppers key) ≡ kept_under cmp name uppers key
  kept_at uppers key = ap (λ compare. option_map uid_of (get_by compare uppers)) (λ i other. ordered key other i)

  -- a key under which nothing is found isn't one of the map's
  pub none_kept : (uppers : BTreeMap K EntityUID) (key : K) → kept_under cmp name uppers key ≡ None → is_some (get order uppers key) ≡ false
  none_kept uppers key none = nothing (get order uppers key) (kept_at uppers key ∙ none)
    where
      nothing : (o : Option EntityUID) → option_map uid_of o ≡ None → is_some o ≡ false
      nothing None is = refl
      nothing (Some it) is = let wrong : Some (uid_of it) ≡ None = is in absurd cc

  -- in an empty map nothing is found
  pub none_at : (uppers : BTreeMap K EntityUID) (key : K) → uppers.entries ≡ [] → kept_under cmp name uppers key ≡ None
  none_at uppers key none = ap (λ (entries : List (K × EntityUID)).
      option_map uid_of (lookup (is_at (λ other. cmp (name key) (name other))) entries)) none

-- nodes under keys, each of a name: the order of keys, which is that of names; what stands above a
-- name before and after, and what is lost there; by what of it the uids above are gone over
pub record Walk (K P : Type 0) : Type 1 where
  pub name : K → P
  pub order : K → K → Ordering
  pub cmp : P → P → Ordering
  pub ordered : (a b : K) → order a b ≡ cmp (name a) (name b)
  pub tied : (a b : P) → Decides (is_eq (cmp a b)) (a ≡ b)
  pub Above : P → PlainUid → Type 0
  pub Still : P → PlainUid → Type 0
  pub Lost : P → PlainUid → Type 0
  pub of : PlainUid → P

-- the uids that are left while the names below one are gone over: of that one, above those that are
-- left, or of one that is left
abbrev pub IsLeftOf : {P : Type 0} → (PlainUid → P) → P → List P → List P → P → PlainUid → Type 0
IsLeftOf of name lowers left lower upper = ((name ≡ of upper) × Contains lowers lower) ⊎ Contains left (of upper)

module _ {K P : Type 0} (walk : Walk K P) where
  -- what is found of a name, but for what is left
  abbrev Found : (PlainUid → Type 0) → P → Option PlainUid → Type 0
  Found = IsUpperSoFar walk.Above walk.Still walk.Lost

  -- what is found of all keys, but for what is left
  abbrev All : (P → PlainUid → Type 0) → BTreeMap K EntityUID → Type 0
  All = AreUppersSoFar walk.cmp walk.name walk.Above walk.Still walk.Lost

  -- what is kept under the name of a key
  abbrev at : BTreeMap K EntityUID → K → Option PlainUid
  at = kept_under walk.cmp walk.name

  -- what is kept is found by the names that keys stand for
  found_at : (uppers : BTreeMap K EntityUID) (key : K) → option_map uid_of (get walk.order uppers key) ≡ at uppers key
  found_at = kept_at walk.name walk.order walk.cmp walk.ordered

  -- what is found stays found where of the uids that were left each is left still or still stands
  -- there
  pub found_on : (name : P) (IsLeft AreLeft : PlainUid → Type 0) (o : Option PlainUid)
      → (o ≡ None → (upper : PlainUid) → walk.Above name upper → IsLeft upper → AreLeft upper ⊎ walk.Still name upper)
      → Found IsLeft name o → Found AreLeft name o
  found_on name IsLeft AreLeft None on so_far = λ upper above. ⊎_elim (on refl upper above) (λ there. inr there) (so_far upper above)
  found_on name IsLeft AreLeft (Some it) on so_far = so_far

  -- one uid is kept under a key
  module _ (IsLeft AreLeft : P → PlainUid → Type 0) (before after : BTreeMap K EntityUID) (key : K) (uid : EntityUID)
      (updates : (q : K) → get walk.order after q ≡ cond (is_at (walk.order key) q) (Some uid) (get walk.order before q)) where
    pub upper_put : walk.Lost (walk.name key) (uid_of uid)
        → ((it : K) → ¬ (walk.name key ≡ walk.name it) → (upper : PlainUid) → IsLeft (walk.name it) upper → AreLeft (walk.name it) upper)
        → All IsLeft before → All AreLeft after
    upper_put lost on so_far it = cases (is_at (walk.order key) it) refl
      where
        Q : Option PlainUid → Type 0
        Q = Found (AreLeft (walk.name it)) (walk.name it)

        same_key : is_at (walk.order key) it ≡ is_eq (walk.cmp (walk.name key) (walk.name it))
        same_key = ap is_eq (walk.ordered key it)

        cases : (b : Bool) → is_at (walk.order key) it ≡ b → Q (at after it)
        cases true is =
            let same : walk.name key ≡ walk.name it = (walk.tied (walk.name key) (walk.name it)).0 (sym same_key ∙ is) in
            let found : get walk.order after it ≡ Some uid =
            updates it ∙ ap (λ b. cond b (Some uid) (get walk.order before it)) is in
            let put : Q (Some (uid_of uid)) = subst (λ n. walk.Lost n (uid_of uid)) same lost in
            subst Q (found_at after it) (subst (λ found. Q (option_map uid_of found)) (sym found) put)
        cases false is =
            let different : ¬ (walk.name key ≡ walk.name it) = λ same.
            false≢true (sym is ∙ (same_key ∙ (walk.tied (walk.name key) (walk.name it)).1 same)) in
            let found : get walk.order after it ≡ get walk.order before it =
            updates it ∙ ap (λ b. cond b (Some uid) (get walk.order before it)) is in
            let as_before : at before it ≡ at after it =
            sym (found_at before it) ∙ (ap (option_map uid_of) (sym found) ∙ found_at after it) in
            subst Q as_before
            (found_on (walk.name it) (IsLeft (walk.name it)) (AreLeft (walk.name it)) (at before it)
            (λ none upper above left. inl (on it different upper left)) (so_far it))

  module _ (name : P) (left : List P) where
    -- a name below which nothing is lost is gone past
    pub past_kept : (first : P) (rest : List P) (uppers : BTreeMap K EntityUID)
        → ((upper : PlainUid) → walk.of upper ≡ name → walk.Above first upper → walk.Still first upper)
        → All (IsLeftOf walk.of name (first ∷ rest) left) uppers → All (IsLeftOf walk.of name rest left) uppers
    past_kept first rest uppers still so_far key =
        found_on (walk.name key) (IsLeftOf walk.of name (first ∷ rest) left (walk.name key)) (IsLeftOf walk.of name rest left (walk.name key)) (at uppers key)
        (λ none upper above is_left. ⊎_elim
        (λ here. ⊎_elim
        (λ same. inr (subst (λ n. walk.Still n upper) same (still upper (sym here.0) (subst (λ n. walk.Above n upper) (sym same) above))))
        (λ later. inl (inl (here.0, later)))
        (Contains-cons_cases first rest (walk.name key) here.1))
        (λ other. inl (inr other))
        is_left)
        (so_far key)

    -- a name under which something is kept is gone past
    pub past_there : (first : K) (rest : List P) (uppers : BTreeMap K EntityUID) → ¬ (at uppers first ≡ None)
        → All (IsLeftOf walk.of name (walk.name first ∷ rest) left) uppers → All (IsLeftOf walk.of name rest left) uppers
    past_there first rest uppers there so_far key =
        found_on (walk.name key) (IsLeftOf walk.of name (walk.name first ∷ rest) left (walk.name key)) (IsLeftOf walk.of name rest left (walk.name key)) (at uppers key)
        (λ none upper above is_left. ⊎_elim
        (λ here. ⊎_elim
        (λ same. absurd (there (ap (λ n. option_map uid_of (get_by (λ other. walk.cmp n (walk.name other)) uppers)) same ∙ none)))
        (λ later. inl (inl (here.0, later)))
        (Contains-cons_cases (walk.name first) rest (walk.name key) here.1))
        (λ other. inl (inr other))
        is_left)
        (so_far key)

    -- a name under which a uid is put is gone past
    pub left_past : (first : K) (rest : List P) (key : K) → ¬ (walk.name first ≡ walk.name key) → (upper : PlainUid)
        → IsLeftOf walk.of name (walk.name first ∷ rest) left (walk.name key) upper → IsLeftOf walk.of name rest left (walk.name key) upper
    left_past first rest key different upper is_left = ⊎_elim
        (λ here. ⊎_elim (λ same. absurd (different same)) (λ later. inl (here.0, later)) (Contains-cons_cases (walk.name first) rest (walk.name key) here.1))
        (λ others. inr others)
        is_left

    -- at first all names below it are left
    pub left_first : (lowers : List P) (uppers : BTreeMap K EntityUID)
        → ((lower : P) (upper : PlainUid) → walk.of upper ≡ name → walk.Above lower upper → Contains lowers lower)
        → All (λ lower upper. Contains (name ∷ left) (walk.of upper)) uppers → All (IsLeftOf walk.of name lowers left) uppers
    left_first lowers uppers listed so_far key =
        found_on (walk.name key) (λ upper. Contains (name ∷ left) (walk.of upper)) (IsLeftOf walk.of name lowers left (walk.name key)) (at uppers key)
        (λ none upper above is_left. inl (⊎_elim
        (λ same. inl (same, listed (walk.name key) upper (sym same) above))
        (λ later. inr later)
        (Contains-cons_cases name left (walk.of upper) is_left)))
        (so_far key)

    -- in the end none is
    pub left_none : (lowers : List P) (uppers : BTreeMap K EntityUID) → lowers ≡ [] → All (IsLeftOf walk.of name lowers left) uppers
        → All (λ lower upper. Contains left (walk.of upper)) uppers
    left_none lowers uppers nothing so_far key =
        found_on (walk.name key) (IsLeftOf walk.of name lowers left (walk.name key)) (λ upper. Contains left (walk.of upper)) (at uppers key)
        (λ none upper above is_left. inl (⊎_elim
        (λ here. absurd (Contains-none (walk.name key) (subst (λ xs. Contains xs (walk.name key)) nothing here.1)))
        (λ later. later)
        is_left))
        (so_far key)

    -- one that nothing stands below is gone past
    pub past_none : (uppers : BTreeMap K EntityUID) → ((lower : P) (upper : PlainUid) → walk.of upper ≡ name → ¬ walk.Above lower upper)
        → All (λ lower upper. Contains (name ∷ left) (walk.of upper)) uppers → All (λ lower upper. Contains left (walk.of upper)) uppers
    past_none uppers none so_far key =
        found_on (walk.name key) (λ upper. Contains (name ∷ left) (walk.of upper)) (λ upper. Contains left (walk.of upper)) (at uppers key)
        (λ nothing upper above is_left. ⊎_elim
        (λ same. absurd (none (walk.name key) upper (sym same) above))
        (λ later. inl later)
        (Contains-cons_cases name left (walk.of upper) is_left))
        (so_far key)

  -- at first anything is left
  pub anything_left : (uppers : BTreeMap K EntityUID) → uppers.entries ≡ [] → All (λ lower upper. Unit {0}) uppers
  anything_left uppers empty key =
      subst (Found (λ upper. Unit {0}) (walk.name key)) (sym (none_at walk.name walk.order walk.cmp walk.ordered uppers key empty)) (λ upper above. inl tt)

  -- of these are all that anything stands below
  pub all_left : (names : List P) (uppers : BTreeMap K EntityUID)
      → ((lower : P) (upper : PlainUid) → walk.Above lower upper → Contains names (walk.of upper))
      → All (λ lower upper. Unit {0}) uppers → All (λ lower upper. Contains names (walk.of upper)) uppers
  all_left names uppers are so_far key =
      found_on (walk.name key) (λ upper. Unit {0}) (λ upper. Contains names (walk.of upper)) (at uppers key)
      (λ none upper above is_left. inl (are (walk.name key) upper above))
      (so_far key)

  -- where no name is left, none is for any
  pub none_left : (left : List P) (uppers : BTreeMap K EntityUID) → left ≡ [] → All (λ lower upper. Contains left (walk.of upper)) uppers
      → All (λ lower upper. ⊥) uppers
  none_left left uppers nothing so_far key =
      found_on (walk.name key) (λ upper. Contains left (walk.of upper)) (λ upper. ⊥) (at uppers key)
      (λ none upper above is_left. absurd (Contains-none (walk.of upper) (subst (λ xs. Contains xs (walk.of upper)) nothing is_left)))
      (so_far key)

  -- what is found at a key
  pub upper_found : (uppers : BTreeMap K EntityUID) (key : K) (o : Option EntityUID) → All (λ lower upper. ⊥) uppers
      → o ≡ get walk.order uppers key → Found (λ upper. ⊥) (walk.name key) (option_map uid_of o)
  upper_found uppers key o all is =
      subst (Found (λ upper. ⊥) (walk.name key)) (sym (ap (option_map uid_of) is ∙ found_at uppers key)) (all key)
