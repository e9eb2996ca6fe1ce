-- What stands in columns of keys and nodes once a node is put behind them under its name.
use Rattle.std.proofs.Common.{◌≡◌, ◌≢◌, ◌↔◌, ◌⊎◌, ◌++◌, ◌+◌, ◌-◌, ℕ, suc, zero, Bool, true, false, IsTrue, ◌<◌, Option, None, Some, List, [], ◌∷◌, Contains, ap, arith, cond, get_or, length, slice_get, sym, subst, ◌∙◌, refl, inl, inr}
use Rattle.std.proofs.lemmas.Bool.{false≢true, cond-true, cond-false, false_from_ne_true}
use Rattle.std.proofs.lemmas.List.{length-append}
use Rattle.std.proofs.lemmas.List.Elements.{Contains-append_cases, Contains-append_left}
use Rattle.std.proofs.lemmas.Option.{get_or_from_slice_get, none-some, same_Some, slice_get-get_or, slice_get_within}
use Rattle.std.specs.Cmp.{IsEquivalence, IsTotalOrder}
use Rattle.std.specs.Global.{Box}
use Rattle.std.specs.List.{AllByRecursion, zip}
use Rattle.std.specs.List.Sorted.{IsStrictlySortedBy}
use Rattle.std.specs.Map.{lookup}
use Rattle.std.specs.Option.{option_to_list}
use Rattle.std.specs.Ordering.{is_eq, is_lt, ordering_reverse}
use Rattle.std.specs.declared.cmp.Ordering.{Ordering}
use Rattle.std.specs.declared.cmp.Ordering.TheVariants.{Equal, Greater, Less}
use Rattle.cedar_ast.proofs.Lists.{Contains-cons, Contains-cons_cases}
use Rattle.cedar_ast.proofs.Ordered.{AllByRecursion-middle}
use Rattle.cedar_builder.proofs.AtKeys.{at_equal_keys}
use Rattle.cedar_builder.specs.DeclaredNodes.{AreInOrder, AreLocated, IsDefinedAt, IsPut, NoneAbove, at_key}
use Rattle.cedar_table.proofs.ColumnLemmas.{zip_behind}

-- a list whose last item is known ends in it
pub ends_in : {A : Type 0} (xs : List A) (n : ℕ) (x : A) → length xs ≡ n + 1 → slice_get xs n ≡ Some x
    → (front : List A) × (xs ≡ front ++ x ∷ [])
ends_in [] n x len found = absurd (omega (arith, len))
ends_in (y ∷ []) zero x len found = ([], ap (λ each. each ∷ []) (same_Some y x found))
ends_in (y ∷ []) (suc n) x len found = absurd (omega (arith, len))
ends_in (y ∷ z ∷ zs) zero x len found = absurd (omega (arith, len))
ends_in (y ∷ z ∷ zs) (suc n) x len found =
    let rest = ends_in (z ∷ zs) n x (omega (arith, len)) found in (y ∷ rest.0, ap (λ each. y ∷ each) rest.1)

-- so does one whose last item is taken out of it
pub popped_last : {A : Type 0} (xs front : List A) (taken : Option A) (n : ℕ) (x : A) → n ≡ length xs
    → xs ≡ front ++ option_to_list taken → ((d : A) → 0 < n → taken ≡ Some (get_or xs (n - 1) d))
    → Some x ≡ slice_get xs (length xs - 1) → xs ≡ front ++ x ∷ []
popped_last xs front taken n x same is value found =
    let some : 0 < length xs = omega (arith, slice_get_within xs (length xs - 1) x (sym found)) in
    let last : get_or xs (n - 1) x ≡ x =
    ap (λ m. get_or xs (m - 1) x) same ∙ get_or_from_slice_get xs (length xs - 1) x x (sym found) in
    is ∙ ap (λ it. front ++ option_to_list it) (value x (omega (arith, some, same)) ∙ ap Some last)

-- a list without a last item is empty
pub empty_from_no_last : {A : Type 0} (xs : List A) → None ≡ slice_get xs (length xs - 1) → xs ≡ []
empty_from_no_last [] none = refl
empty_from_no_last (x ∷ xs) none =
    absurd (none-some (get_or (x ∷ xs) (length (x ∷ xs) - 1) x)
    (none ∙ slice_get-get_or (x ∷ xs) (length (x ∷ xs) - 1) x (omega arith)))

module _ {K X : Type 0} (test : K → Bool) where
  -- what stands behind entries none of which passes is found
  pub found_behind : (entries : List (K × X)) (key : K) (it : X) → lookup test entries ≡ None → test key ≡ true
      → lookup test (entries ++ (key, it) ∷ []) ≡ Some it
  found_behind [] key it none passes = cond-true (test key) (Some it) None passes
  found_behind (entry ∷ rest) key it none passes = by (test entry.0) refl (found_behind rest key it)
    where
      by : (b : Bool) → test entry.0 ≡ b
          → (lookup test rest ≡ None → test key ≡ true → lookup test (rest ++ (key, it) ∷ []) ≡ Some it)
          → lookup test (entry ∷ rest ++ (key, it) ∷ []) ≡ Some it
      by true is later = absurd (none-some entry.1 (sym none ∙ cond-true (test entry.0) (Some entry.1) (lookup test rest) is))
      by false is later =
          cond-false (test entry.0) (Some entry.1) (lookup test (rest ++ (key, it) ∷ [])) is
          ∙ later (sym (cond-false (test entry.0) (Some entry.1) (lookup test rest) is) ∙ none) passes

  -- one more that doesn't pass changes nothing
  pub passed_behind : (entries : List (K × X)) (key : K) (it : X) → test key ≡ false
      → lookup test (entries ++ (key, it) ∷ []) ≡ lookup test entries
  passed_behind [] key it passes = cond-false (test key) (Some it) None passes
  passed_behind (entry ∷ rest) key it passes = ap (cond (test entry.0) (Some entry.1)) (passed_behind rest key it passes)

-- keys that are equal tie
tied_keys : {K : Type 0} {eq : K → K → Bool} (cmp : K → K → Ordering) → ((a b : K) → eq a b ≡ is_eq (cmp a b)) → (a b : K)
    → eq a b ≡ true → cmp a b ≡ Equal
tied_keys cmp ties a b is = is_Equal (cmp a b) (sym (ties a b) ∙ is) where
  is_Equal : (order : Ordering) → is_eq order ≡ true → order ≡ Equal
  is_Equal Less is = absurd (false≢true is)
  is_Equal Equal is = refl
  is_Equal Greater is = absurd (false≢true is)

module _ {K : Type 0} (cmp : K → K → Ordering) where
  -- each key is below the other
  abbrev pub AllBelow : List K → K → Type 0
  AllBelow keys other = (key : K) → Contains keys key → cmp key other ≡ Less

  below_one_more : (first key : K) (others : List K) → AllByRecursion (λ other. cmp first other ≡ Less) others
      → cmp first key ≡ Less → AllByRecursion (λ other. cmp first other ≡ Less) (others ++ key ∷ [])
  below_one_more first key [] all less = (less, tt)
  below_one_more first key (other ∷ others) all less = (all.0, below_one_more first key others all.1 less)

  -- keys in order with one behind that is above them are in order
  pub sorted_behind : (keys : List K) (key : K) → IsStrictlySortedBy cmp keys → AllBelow keys key
      → IsStrictlySortedBy cmp (keys ++ key ∷ [])
  unfolding IsStrictlySortedBy
  sorted_behind [] key sorted below = (tt, tt)
  sorted_behind (first ∷ rest) key sorted below = (
    below_one_more first key rest sorted.0 (below first (Contains-cons first rest first (inl refl))),
    sorted_behind rest key sorted.1 (λ other among. below other (Contains-cons first rest other (inr among))),
  )

  below_front : (first : K) (front back : List K) → AllByRecursion (λ other. cmp first other ≡ Less) (front ++ back)
      → AllByRecursion (λ other. cmp first other ≡ Less) front
  below_front first [] back all = tt
  below_front first (other ∷ front) back all = (all.0, below_front first front back all.1)

  -- the first of keys in order are in order
  pub sorted_front : (front back : List K) → IsStrictlySortedBy cmp (front ++ back) → IsStrictlySortedBy cmp front
  unfolding IsStrictlySortedBy
  sorted_front [] back sorted = tt
  sorted_front (first ∷ front) back sorted = (below_front first front back sorted.0, sorted_front front back sorted.1)

  -- of keys in order all are below the last
  pub below_last : (front : List K) (last : K) → IsStrictlySortedBy cmp (front ++ last ∷ []) → AllBelow front last
  unfolding IsStrictlySortedBy
  below_last [] last sorted key among = absurd (omega (arith, among.1))
  below_last (first ∷ rest) last sorted key among = elim (Contains-cons_cases first rest key among) [
    | inl same ↦ subst (λ each. cmp each last ≡ Less) same (AllByRecursion-middle (λ other. cmp first other ≡ Less) rest last [] sorted.0)
    | inr later ↦ below_last rest last sorted.1 key later
  ]

  module _ (total : IsTotalOrder cmp) where
    -- keys that tie stand alike to any other
    pub tied_alike : (a b c : K) → cmp b c ≡ Equal → cmp a b ≡ cmp a c
    tied_alike a b c tied = total.antisymm a b ∙ (ap ordering_reverse (total.congr b c a tied) ∙ sym (total.antisymm a c))

    -- a key that none behind it is below is not above any of these
    pub not_above : (a b : K) → is_lt (cmp b a) ≡ false → cmp a b ≢ Greater
    not_above a b isnt greater = false≢true (sym isnt ∙ ap is_lt (total.antisymm b a ∙ ap ordering_reverse greater))

    -- a key that isn't above another and doesn't tie with it is below it
    below_otherwise : (order : Ordering) → order ≢ Greater → ¬ (is_eq order ≡ true) → order ≡ Less
    below_otherwise Less above ties = refl
    below_otherwise Equal above ties = absurd (ties refl)
    below_otherwise Greater above ties = absurd (above refl)

    -- keys in order none of which is above a key are below it, where the last doesn't tie with it
    pub all_below : (front : List K) (last key : K) → IsStrictlySortedBy cmp (front ++ last ∷ [])
        → NoneAbove cmp (front ++ last ∷ []) key → ¬ (is_eq (cmp last key) ≡ true) → AllBelow (front ++ last ∷ []) key
    all_below front last key sorted above ties other among =
        let its = below_otherwise (cmp last key) (above last (Contains-last front last)) ties in
        elim (Contains-append_cases front (last ∷ []) other among) [
          | inl before ↦ total.trans other last key (below_last front last sorted other before) its
          | inr here ↦ elim (Contains-cons_cases last [] other here) [
            | inl same ↦ subst (λ each. cmp each key ≡ Less) same its
            | inr none ↦ absurd (omega (arith, none.1))
          ]
        ]
      where
        Contains-last : (front : List K) (last : K) → Contains (front ++ last ∷ []) last
        Contains-last [] last = Contains-cons last [] last (inl refl)
        Contains-last (first ∷ front) last = Contains-cons first (front ++ last ∷ []) last (inr (Contains-last front last))

module _ {K Name Node : Type 0} {eq : K → K → Bool} (laws : IsEquivalence eq) (cmp : K → K → Ordering) (total : IsTotalOrder cmp)
    (ties : (a b : K) → eq a b ≡ is_eq (cmp a b)) (key_name : K → Name) (node_name : Node → Name) (IsExternal : Node → Type 0)
    (same_key : (a b : K) → IsTrue (eq a b) ↔ (key_name a ≡ key_name b)) where
  -- at a key that is above all nothing stands
  lacks : (keys : List K) (nodes : List Node) (key : K) → AllBelow cmp keys key → at_key eq (zip keys nodes) key ≡ None
  lacks [] nodes key below = refl
  lacks (first ∷ keys) [] key below = refl
  lacks (first ∷ keys) (node ∷ nodes) key below =
      let less = below first (Contains-cons first keys first (inl refl)) in
      let other : eq key first ≡ false =
      ties key first ∙ ap is_eq (total.antisymm key first ∙ ap ordering_reverse less) in
      cond-false (eq key first) (Some node) (at_key eq (zip keys nodes) key) other
      ∙ lacks keys nodes key (λ each among. below each (Contains-cons first keys each (inr among)))

  module _ (front : List K) (others : List Node) (name : K) (it : Node) (named : key_name name ≡ node_name it)
      (below : AllBelow cmp front name) where
    -- nothing stands at the name before
    pub lacks_name : (key : K) → key_name key ≡ node_name it → at_key eq (zip front others) key ≡ None
    lacks_name key same =
        sym (at_equal_keys laws (zip front others) name key ((same_key name key).1 (named ∙ sym same))) ∙ lacks front others name below

    module _ (last : K) (node : Node) (tied : key_name last ≡ node_name it) where
      -- at the name stands what is behind
      pub at_its_own : (key : K) → key_name key ≡ node_name it
          → at_key eq (zip front others ++ (last, node) ∷ []) key ≡ Some node
      at_its_own key same =
          found_behind (eq key) (zip front others) last node (lacks_name key same) ((same_key key last).1 (same ∙ sym tied))

      -- and at any other what stood there
      pub at_another : (key : K) → key_name key ≢ node_name it
          → at_key eq (zip front others ++ (last, node) ∷ []) key ≡ at_key eq (zip front others) key
      at_another key apart =
          passed_behind (eq key) (zip front others) last node
          (false_from_ne_true (eq key last) (λ is. apart ((same_key key last).0 is ∙ tied)))

    -- a node is put where none stands
    pub put_first : (key : K) → key_name key ≡ node_name it → (before after : List (K × Node)) → before ≡ zip front others
        → after ≡ zip front others ++ (name, it) ∷ [] → IsPut IsExternal it (at_key eq before key) (at_key eq after key)
    put_first key same before after was is =
        subst (λ stands. IsPut IsExternal it stands (at_key eq after key))
        (sym (ap (λ entries. at_key eq entries key) was ∙ lacks_name key same))
        (ap (λ entries. at_key eq entries key) is ∙ at_its_own name it named key same)

    module _ (last : K) (old : Node) (tied : key_name last ≡ node_name it) (before : List (K × Node))
        (was : before ≡ zip front others ++ (last, old) ∷ []) where
      -- what stands at the name
      pub stands : (key : K) → key_name key ≡ node_name it → at_key eq before key ≡ Some old
      stands key same = ap (λ entries. at_key eq entries key) was ∙ at_its_own last old tied key same

      -- another node replaces an external one
      pub put_in_place : (key : K) → key_name key ≡ node_name it → ¬ IsExternal it → IsExternal old → (after : List (K × Node))
          → after ≡ zip front others ++ (name, it) ∷ [] → IsPut IsExternal it (at_key eq before key) (at_key eq after key)
      put_in_place key same other is_external after is =
          subst (λ o. IsPut IsExternal it o (at_key eq after key)) (sym (stands key same))
          (inr (other, is_external, ap (λ entries. at_key eq entries key) is ∙ at_its_own name it named key same))

module _ {K Node : Type 0} (IsLocatedAs : K → Node → Type 0) where
  -- the first of entries are located as their keys where all are
  pub located_front : (front back : List (K × Node)) → AreLocated IsLocatedAs (front ++ back) → AreLocated IsLocatedAs front
  located_front front back located entry among = located entry (Contains-append_left front back entry among)

  -- and so are all with one more behind that is
  pub located_behind : (front : List (K × Node)) (key : K) (it : Node) → AreLocated IsLocatedAs front → IsLocatedAs key it
      → AreLocated IsLocatedAs (front ++ (key, it) ∷ [])
  located_behind front key it located at entry among = elim (Contains-append_cases front ((key, it) ∷ []) entry among) [
    | inl before ↦ located entry before
    | inr here ↦ elim (Contains-cons_cases (key, it) [] entry here) [
      | inl same ↦ subst (λ (each : K × Node). IsLocatedAs each.0 each.1) same at
      | inr none ↦ absurd (omega (arith, none.1))
    ]
  ]

-- a node may be put behind the front of columns under its name: these are the columns, or all of
-- them but an external node that it takes the place of
pub record HasRoom {K Name Node : Type 0} (cmp : K → K → Ordering) (key_name : K → Name) (node_name : Node → Name)
    (IsExternal : Node → Type 0) (keys : List K) (nodes : List Node) (front : List K) (others : List Node) (name : K)
    (it : Node) : Type 0 where
  pub len : length others ≡ length front
  pub sorted : IsStrictlySortedBy cmp front
  pub below : AllBelow cmp front name
  pub from : (key : K) → Contains front key → Contains keys key
  pub before : (zip keys nodes ≡ zip front others)
      ⊎ ((last : K) × (old : Node) × (key_name last ≡ node_name it) × (¬ IsExternal it) × IsExternal old
      × (zip keys nodes ≡ zip front others ++ (last, old) ∷ []))

-- a node is put behind columns under its name
pub record IsPutBehind {K Name Node : Type 0} (eq : K → K → Bool) (cmp : K → K → Ordering) (key_name : K → Name)
    (node_name : Node → Name) (IsExternal : Node → Type 0) (keys : List K) (nodes : List Node) (name : K) (it : Node)
    (new_keys : List K) (new_nodes : List Node) : Type 1 where
  pub sorted : IsStrictlySortedBy cmp new_keys
  pub from : (key : K) → Contains new_keys key → Contains keys key ⊎ (key_name key ≡ node_name it)
  pub other : (key : K) → key_name key ≢ node_name it
      → at_key eq (zip new_keys new_nodes) key ≡ at_key eq (zip keys nodes) key
  pub own : (key : K) → key_name key ≡ node_name it
      → IsPut IsExternal it (at_key eq (zip keys nodes) key) (at_key eq (zip new_keys new_nodes) key)
  pub located : (IsLocatedAs : K → Node → Type 0) → IsLocatedAs name it → AreLocated IsLocatedAs (zip keys nodes)
      → AreLocated IsLocatedAs (zip new_keys new_nodes)

module _ {K Name Node : Type 0} {eq : K → K → Bool} (laws : IsEquivalence eq) (cmp : K → K → Ordering) (total : IsTotalOrder cmp)
    (ties : (a b : K) → eq a b ≡ is_eq (cmp a b)) (key_name : K → Name) (node_name : Node → Name) (IsExternal : Node → Type 0)
    (same_key : (a b : K) → IsTrue (eq a b) ↔ (key_name a ≡ key_name b)) (keys : List K) (nodes : List Node)
    (len : length nodes ≡ length keys) (sorted : IsStrictlySortedBy cmp keys) (name : K) (it : Node)
    (named : key_name name ≡ node_name it) where
  -- there is room behind columns whose last key doesn't tie with the name
  pub room_behind : NoneAbove cmp keys name → (last : K) → Some last ≡ slice_get keys (length keys - 1) → eq last name ≡ false
      → HasRoom cmp key_name node_name IsExternal keys nodes keys nodes name it
  room_behind above last found apart =
      let within = slice_get_within keys (length keys - 1) last (sym found) in
      let ends = ends_in keys (length keys - 1) last (omega (arith, within)) (sym found) in
      record {
        len = len;
        sorted = sorted;
        below = rw ends.1 (all_below cmp total ends.0 last name (rw ends.1 at sorted) (rw ends.1 at above)
            (λ tie. false≢true (sym apart ∙ (ties last name ∙ tie))));
        from = λ key among. among;
        before = inl refl;
      }

  -- and behind none
  pub room_for_first : keys ≡ [] → HasRoom cmp key_name node_name IsExternal keys nodes keys nodes name it
  room_for_first empty = record {
    len = len;
    sorted = sorted;
    below = λ key among. absurd (omega (arith, among.1, ap length empty));
    from = λ key among. among;
    before = inl refl;
  }

  -- and behind all but an external node of that name
  pub room_in_place : (front : List K) (others : List Node) (last : K) (old : Node) → keys ≡ front ++ last ∷ []
      → nodes ≡ others ++ old ∷ [] → eq last name ≡ true → ¬ IsExternal it → IsExternal old
      → HasRoom cmp key_name node_name IsExternal keys nodes front others name it
  room_in_place front others last old of_keys of_nodes tie other is_external =
      let alike : length others ≡ length front =
      omega (arith, len, ap length of_keys ∙ length-append front (last ∷ []), ap length of_nodes ∙ length-append others (old ∷ [])) in
      let in_order : IsStrictlySortedBy cmp (front ++ last ∷ []) = subst (IsStrictlySortedBy cmp) of_keys sorted in
      record {
        len = alike;
        sorted = sorted_front cmp front (last ∷ []) in_order;
        below = λ key among.
            sym (tied_alike cmp total key last name (tied_keys cmp ties last name tie)) ∙ below_last cmp front last in_order key among;
        from = λ key among. subst (λ each. Contains each key) (sym of_keys) (Contains-append_left front (last ∷ []) key among);
        before = inr (
          last,
          old,
          (same_key last name).0 tie ∙ named,
          other,
          is_external,
          (λ i. zip (of_keys i) (of_nodes i)) ∙ zip_behind front others last old alike,
        );
      }

  -- at the name stands the last node, where its key ties with it
  pub last_stands : (last : K) (old : Node) → Some last ≡ slice_get keys (length keys - 1)
      → Some old ≡ slice_get nodes (length nodes - 1) → eq last name ≡ true → (key : K) → key_name key ≡ node_name it
      → at_key eq (zip keys nodes) key ≡ Some old
  last_stands last old found beside tie key same =
      let front = ends_in keys (length keys - 1) last
      (omega (arith, slice_get_within keys (length keys - 1) last (sym found))) (sym found) in
      let others = ends_in nodes (length nodes - 1) old
      (omega (arith, slice_get_within nodes (length nodes - 1) old (sym beside))) (sym beside) in
      let alike : length others.0 ≡ length front.0 =
      omega (arith, len, ap length front.1 ∙ length-append front.0 (last ∷ []), ap length others.1 ∙ length-append others.0 (old ∷ [])) in
      let in_order : IsStrictlySortedBy cmp (front.0 ++ last ∷ []) = subst (IsStrictlySortedBy cmp) front.1 sorted in
      let below : AllBelow cmp front.0 name =
      λ each among. sym (tied_alike cmp total each last name (tied_keys cmp ties last name tie)) ∙ below_last cmp front.0 last in_order each among in
      stands laws cmp total ties key_name node_name IsExternal same_key front.0 others.0 name it named below last old
      ((same_key last name).0 tie ∙ named) (zip keys nodes)
      ((λ i. zip (front.1 i) (others.1 i)) ∙ zip_behind front.0 others.0 last old alike) key same

  module _ (front : List K) (others : List Node) (room : HasRoom cmp key_name node_name IsExternal keys nodes front others name it)
      (new_keys : List K) (new_nodes : List Node) (is_keys : new_keys ≡ front ++ name ∷ []) (is_nodes : new_nodes ≡ others ++ it ∷ []) where
    after_is : zip new_keys new_nodes ≡ zip front others ++ (name, it) ∷ []
    after_is = (λ i. zip (is_keys i) (is_nodes i)) ∙ zip_behind front others name it room.len

    -- the keys are in order with the name behind
    put_sorted : IsStrictlySortedBy cmp new_keys
    put_sorted = subst (IsStrictlySortedBy cmp) (sym is_keys) (sorted_behind cmp front name room.sorted room.below)

    -- they are those that were there, and the name
    put_keys : (key : K) → Contains new_keys key → Contains keys key ⊎ (key_name key ≡ node_name it)
    put_keys key among = elim (Contains-append_cases front (name ∷ []) key (subst (λ each. Contains each key) is_keys among)) [
      | inl before ↦ inl (room.from key before)
      | inr here ↦ elim (Contains-cons_cases name [] key here) [
        | inl same ↦ inr (sym (ap key_name same) ∙ named)
        | inr none ↦ absurd (omega (arith, none.1))
      ]
    ]

    -- at other names stands what stood there
    put_other : (key : K) → key_name key ≢ node_name it
        → at_key eq (zip new_keys new_nodes) key ≡ at_key eq (zip keys nodes) key
    put_other key apart =
        ap (λ entries. at_key eq entries key) after_is
        ∙ (at_another laws cmp total ties key_name node_name IsExternal same_key front others name it named room.below name it named key apart
        ∙ (elim room.before [
          | inl kept ↦ ap (λ entries. at_key eq entries key) (sym kept)
          | inr replaced ↦
              sym (ap (λ entries. at_key eq entries key) replaced.5
              ∙ at_another laws cmp total ties key_name node_name IsExternal same_key front others name it named room.below replaced.0
              replaced.1 replaced.2 key apart)
        ]))

    -- at its own the node is put
    put_own : (key : K) → key_name key ≡ node_name it
        → IsPut IsExternal it (at_key eq (zip keys nodes) key) (at_key eq (zip new_keys new_nodes) key)
    put_own key same = elim room.before [
      | inl kept ↦ put_first laws cmp total ties key_name node_name IsExternal same_key front others name it named room.below key same
          (zip keys nodes) (zip new_keys new_nodes) kept after_is
      | inr replaced ↦ put_in_place laws cmp total ties key_name node_name IsExternal same_key front others name it named room.below
          replaced.0 replaced.1 replaced.2 (zip keys nodes) replaced.5 key same replaced.3 replaced.4 (zip new_keys new_nodes) after_is
    ]

    -- each is still located as its key
    put_located : (IsLocatedAs : K → Node → Type 0) → IsLocatedAs name it → AreLocated IsLocatedAs (zip keys nodes)
        → AreLocated IsLocatedAs (zip new_keys new_nodes)
    put_located IsLocatedAs at located =
        let before : AreLocated IsLocatedAs (zip front others) = elim room.before [
          | inl kept ↦ subst (AreLocated IsLocatedAs) kept located
          | inr replaced ↦ located_front IsLocatedAs (zip front others) ((replaced.0, replaced.1) ∷ [])
              (subst (AreLocated IsLocatedAs) replaced.5 located)
        ] in
        subst (AreLocated IsLocatedAs) (sym after_is) (located_behind IsLocatedAs (zip front others) name it before at)

    -- so the node is put
    pub put_behind : IsPutBehind eq cmp key_name node_name IsExternal keys nodes name it new_keys new_nodes
    put_behind = record {
      sorted = put_sorted;
      from = put_keys;
      other = put_other;
      own = put_own;
      located = put_located;
    }

-- columns of keys in order, each with a node at its place that is located as it is, none above the
-- key of a declaration that is left, and these in order
pub record AreColumns {K D Node : Type 0} (cmp : K → K → Ordering) (IsLocatedAs : K → Node → Type 0) (keys : List K) (nodes : List Node)
    (left : List (Box (K × D))) : Type 0 where
  pub len : length nodes ≡ length keys
  pub sorted : IsStrictlySortedBy cmp keys
  pub behind : (item : Box (K × D)) → Contains left item → NoneAbove cmp keys item.value.0
  pub in_order : AreInOrder cmp left
  pub located : AreLocated IsLocatedAs (zip keys nodes)

module _ {K Name : Type 0} {eq : K → K → Bool} (cmp : K → K → Ordering) (total : IsTotalOrder cmp)
    (ties : (a b : K) → eq a b ≡ is_eq (cmp a b)) (key_name : K → Name)
    (same_key : (a b : K) → IsTrue (eq a b) ↔ (key_name a ≡ key_name b)) where
  -- keys of one name tie
  tied_names : (a b : K) → key_name a ≡ key_name b → cmp a b ≡ Equal
  tied_names a b same = tied_keys cmp ties a b ((same_key a b).1 same)

  module _ {D Node : Type 0} (IsLocatedAs : K → Node → Type 0) where
    -- at first there are none
    pub no_columns : (keys : List K) (nodes : List Node) (left : List (Box (K × D))) → keys ≡ [] → nodes ≡ [] → AreInOrder cmp left
        → AreColumns cmp IsLocatedAs keys nodes left
    unfolding IsStrictlySortedBy
    no_columns keys nodes left no_keys no_nodes in_order = rw (no_keys, no_nodes) (record {
      len = refl;
      sorted = tt;
      behind = λ item among key none. absurd (omega (arith, none.1));
      in_order = in_order;
      located = λ entry none. absurd (omega (arith, none.1));
    })

    module _ (keys : List K) (nodes : List Node) (left rest : List (Box (K × D))) (item : Box (K × D)) (is : left ≡ item ∷ rest)
        (columns : AreColumns cmp IsLocatedAs keys nodes left) (stated : Name) (named : stated ≡ key_name item.value.0) where
      -- none is above the name of the next one
      pub none_above : (name : K) → key_name name ≡ stated → NoneAbove cmp keys name
      none_above name same key among greater =
          columns.behind item (subst (λ items. Contains items item) (sym is) (Contains-cons item rest item (inl refl))) key among
          (sym (tied_alike cmp total key name item.value.0 (tied_names name item.value.0 (same ∙ named))) ∙ greater)

      -- with the next one put they still are columns, for what is left then
      pub one_more_column : (new_keys : List K) (new_nodes : List Node) → length new_nodes ≡ length new_keys
          → IsStrictlySortedBy cmp new_keys
          → ((key : K) → Contains new_keys key → Contains keys key ⊎ (key_name key ≡ stated))
          → AreLocated IsLocatedAs (zip new_keys new_nodes) → AreColumns cmp IsLocatedAs new_keys new_nodes rest
      one_more_column new_keys new_nodes len sorted from located = record {
        len = len;
        sorted = sorted;
        behind = λ later among key there greater. elim (from key there) [
          | inl old ↦ columns.behind later
              (subst (λ items. Contains items later) (sym is) (Contains-cons item rest later (inr among))) key old greater
          | inr new ↦
              in_order_here later among
              (sym (total.congr key item.value.0 later.value.0 (tied_names key item.value.0 (new ∙ named))) ∙ greater)
        ];
        in_order = λ i j d before within. whole (suc i) (suc j) d (omega (arith, before)) (omega (arith, within));
        located = located;
      }
        where
          whole : AreInOrder cmp (item ∷ rest)
          whole = subst (AreInOrder cmp) is columns.in_order

          in_order_here : (later : Box (K × D)) → Contains rest later → cmp item.value.0 later.value.0 ≢ Greater
          in_order_here later among =
              subst (λ (it : Box (K × D)). cmp item.value.0 it.value.0 ≢ Greater) among.2
              (whole 0 (suc among.0) later (omega arith) (omega (arith, among.1)))

-- an external node changes nothing where one stands
pub put_nothing : {Node : Type 0} (IsExternal : Node → Type 0) (it old : Node) (o : Option Node) → o ≡ Some old → IsExternal it
    → IsPut IsExternal it o o
put_nothing IsExternal it old o found is = subst (λ o. IsPut IsExternal it o o) (sym found) (inl (is, refl))

-- what stands under a name and isn't external is defined
pub defined_at : {Node : Type 0} (IsExternal : Node → Type 0) (o : Option Node) (old : Node) → o ≡ Some old → ¬ IsExternal old
    → IsDefinedAt IsExternal o
defined_at IsExternal o old found other = rw found other
