-- The edges of a table's nodes against the places of their targets.
use Rattle.std.proofs.Common.{◌≡◌, ◌≢◌, ◌⊎◌, ◌+◌, ℕ, zero, suc, ◌≤◌, ◌<◌, Bool, IsTrue, IfSome, List, [], ◌∷◌, None, Some, Vec, length, slice_get, get_or, Contains, option_map, refl, sym, ◌∙◌, ap, subst, true, false, ltb, ltb-true, ltb-false, arith, inl, inr}
use Rattle.std.proofs.Math.ListN.{set}
use Rattle.std.proofs.lemmas.Bool.{both_ways, cases_Bool, cases_eq, cases_lt, cond-false, cond-true}
use Rattle.std.proofs.lemmas.List.{length-map}
use Rattle.std.proofs.lemmas.Map.Keys.{apart_from_distinct}
use Rattle.std.proofs.lemmas.Option.{get_or_from_slice_get, none-some, same_Some, slice_get-get_or, slice_get-map, slice_get_cases, slice_get_within}
use Rattle.std.specs.BTreeMap.{is_at}
use Rattle.std.specs.Cmp.{IsEquivalence}
use Rattle.std.specs.List.{IsDistinct}
use Rattle.std.specs.Map.{keys_of, lookup, values_of}
use Rattle.std.specs.Ordering.{is_eq}
use Rattle.std.specs.declared.cmp.Ordering.{Ordering}
use Rattle.cedar_graph.proofs.Growing.{grows_weaker}
use Rattle.cedar_graph.proofs.KeyedEdges.{nothing_in_nil, some_with}
use Rattle.cedar_graph.proofs.Lists.{items_at-past}
use Rattle.cedar_graph.proofs.Numbers.{eq_back, eq_trans, keys_from_numbers, number_alike, number_below, number_same, numbered_from_name, numbers_from_keys}
use Rattle.cedar_graph.specs.Words.{AreNumbersOf, Chain, GrowsBy, HasCycle, HasEntry, IsGrown, IsLack, IsNumbered, IsTarget, Lacks, ListHas, Memory, StandsAt, StandsIn, StepsTo, TableFault, items_at}

-- where an entry's key passes, something is found
found_at : {K V : Type 0} (test : K → Bool) (es : List (K × V)) (i : ℕ) (e : K × V) → slice_get es i ≡ Some e
    → IsTrue (test e.0) → ¬ (lookup test es ≡ None)
found_at test [] i e there passes none = absurd (none-some e there)
found_at test (x ∷ es) zero e there passes none =
    let is : test x.0 ≡ true = ap (λ p. test p.0) (same_Some x e there) ∙ passes in
    none-some x.1 (sym none ∙ cond-true (test x.0) (Some x.1) (lookup test es) is)
found_at test (x ∷ es) (suc i) e there passes none = elim (cases_Bool (test x.0)) [
  | inl first ↦ none-some x.1 (sym none ∙ cond-true (test x.0) (Some x.1) (lookup test es) first)
  | inr apart ↦ found_at test es i e there passes (sym (cond-false (test x.0) (Some x.1) (lookup test es) apart) ∙ none)
]

module _ {K V : Type 0} {eq : K → K → Bool} (laws : IsEquivalence eq) (cmp : K → K → Ordering)
    (ties : (a b : K) → eq a b ≡ is_eq (cmp a b)) (entries : List (K × V)) (key : K) where
  -- the place of a key is its number
  pub numbered_at : (place : ℕ) → StandsAt cmp entries key place → IsNumbered eq (keys_of entries) key place
  numbered_at place stands = elim ((slice_get_cases entries place).1) [
    | inl it ↦
        let tie : eq key it.0.0 ≡ true = ties key it.0.0
        ∙ ap is_eq (ap (λ (e : K × V). cmp key e.0) (sym it.3) ∙ stands.1 it.0) in
        numbered_from_name eq (keys_of entries) it.0.0 key place
        (slice_get-map (λ (e : K × V). e.0) entries place ∙ ap (option_map (λ (e : K × V). e.0)) it.2) tie
    | inr past ↦ let within = stands.0 in absurd (omega (arith, within, past.0))
  ]

  -- a key that isn't found isn't there, nor is one that is equal to it
  pub lacking : (copy : K) → eq key copy ≡ true → lookup (is_at (cmp key)) entries ≡ None → ¬ HasEntry eq entries copy
  lacking copy same none has =
      let entry = has.0 in
      let place = has.1 in
      let there = slice_get-get_or entries place.0 entry place.1 ∙ ap Some place.2 in
      let passes : is_eq (cmp key entry.0) ≡ true = sym (ties key entry.0) ∙ eq_trans laws key copy entry.0 same has.2 in
      found_at (is_at (cmp key)) entries place.0 entry there passes none

module _ {K V : Type 0} {eq : K → K → Bool} (laws : IsEquivalence eq) (entries : List (K × V)) where
  -- the key of an entry has the number of its place
  pub entry_numbered : (i : ℕ) (e : K × V) → slice_get entries i ≡ Some e → IsNumbered eq (keys_of entries) e.0 i
  entry_numbered i e there =
      numbered_from_name eq (keys_of entries) e.0 e.0 i
      (slice_get-map (λ (e : K × V). e.0) entries i ∙ ap (option_map (λ (e : K × V). e.0)) there) (laws.refl e.0)

  -- at the number of a key stands an entry
  pub entry_at : (key : K) (i : ℕ) → IsNumbered eq (keys_of entries) key i
      → (e : K × V) × (slice_get entries i ≡ Some e) × (eq key e.0 ≡ true)
  entry_at key i numbered = elim ((slice_get_cases entries i).1) [
    | inl it ↦ (it.0, it.2, number_same laws (keys_of entries) key it.0.0 i numbered (entry_numbered i it.0 it.2))
    | inr past ↦
        let below = number_below eq (keys_of entries) key i numbered in
        absurd (omega (arith, below, past.0, length-map entries (λ (e : K × V). e.0)))
  ]

module _ {K V Z : Type 0} {eq : K → K → Bool} (laws : IsEquivalence eq) (has_edge : V → K → Bool)
    (respect : (node : V) (a b : K) → eq a b ≡ true → has_edge node a ≡ has_edge node b)
    (entries : List (K × V)) (targets : List (Vec ℕ Z)) (len : length targets ≡ length entries)
    (are : (i : ℕ) → IfSome (slice_get (values_of entries) i)
    (λ node. AreNumbersOf eq (keys_of entries) (has_edge node) (items_at targets i))) where
  -- the targets of an entry are the numbers of the keys to which it has an edge
  at_place : (i : ℕ) (e : K × V) → slice_get entries i ≡ Some e
      → AreNumbersOf eq (keys_of entries) (has_edge e.1) (items_at targets i)
  at_place i e there =
      let at_node : slice_get (values_of entries) i ≡ Some e.1 =
      slice_get-map (λ (e : K × V). e.1) entries i ∙ ap (option_map (λ (e : K × V). e.1)) there in
      subst (λ o. IfSome o (λ node. AreNumbersOf eq (keys_of entries) (has_edge node) (items_at targets i))) at_node (are i)

  -- a node has an edge to a key whose number is among its targets
  edge_of : (i : ℕ) (e : K × V) → slice_get entries i ≡ Some e → (to : K) → StandsIn eq (keys_of entries) (items_at targets i) to
      → has_edge e.1 to ≡ true
  edge_of i e there to stands =
      let it = (at_place i e there).sound stands.0 stands.1 in
      respect e.1 to it.0 (number_same laws (keys_of entries) to it.0 stands.0 stands.2 it.1) ∙ it.2

  -- so it has those edges
  pub linked : (i : ℕ) → IfSome (slice_get (values_of entries) i)
      (λ node. (to : K) → StandsIn eq (keys_of entries) (items_at targets i) to → IsTrue (has_edge node to))
  linked i = elim ((slice_get_cases entries i).1) [
    | inl it ↦ subst (λ o. IfSome o (λ node. (to : K) → StandsIn eq (keys_of entries) (items_at targets i) to → IsTrue (has_edge node to)))
        (sym (slice_get-map (λ (e : K × V). e.1) entries i ∙ ap (option_map (λ (e : K × V). e.1)) it.2)) (edge_of i it.0 it.2)
    | inr past ↦ subst (λ o. IfSome o (λ node. (to : K) → StandsIn eq (keys_of entries) (items_at targets i) to → IsTrue (has_edge node to)))
        (sym (slice_get-map (λ (e : K × V). e.1) entries i ∙ ap (option_map (λ (e : K × V). e.1)) past.1)) tt
  ]

  -- each target is a place of the table
  pub within : (i j : ℕ) → IsTarget targets i j → j < length entries
  within i j edge = elim ((slice_get_cases entries i).1) [
    | inl it ↦
        let named = (at_place i it.0 it.2).sound j edge in
        let below = number_below eq (keys_of entries) named.0 j named.1 in
        omega (arith, below, length-map entries (λ (e : K × V). e.0))
    | inr past ↦ let over : length targets ≤ i = omega (arith, past.0, len) in
        absurd (nothing_in_nil j (subst (λ xs. Contains xs j) (items_at-past targets i over) edge))
  ]

  -- a step by numbers is a step of the entries
  pub step_from_list : (a b : K) → ListHas eq (keys_of entries) targets a b → StepsTo eq has_edge entries a b
  step_from_list a b has =
      let it = entry_at laws entries a has.0 has.1 in
      (it.0, (has.0, slice_get_within entries has.0 it.0 it.1, get_or_from_slice_get entries has.0 it.0 it.0 it.1), it.2, edge_of has.0 it.0 it.1 b has.2)

  -- and the other way round
  pub list_from_step : (a b : K) → StepsTo eq has_edge entries a b → ListHas eq (keys_of entries) targets a b
  list_from_step a b step =
      let entry = step.0 in
      let place = step.1 in
      let there = slice_get-get_or entries place.0 entry place.1 ∙ ap Some place.2 in
      let target = (at_place place.0 entry there).complete b step.3 in (
        place.0,
        number_alike laws (keys_of entries) a entry.0 place.0 step.2 (entry_numbered laws entries place.0 entry there),
        (target.0, target.2, target.1),
      )

  -- each edge leads to a key that is there
  pub leads_there : (a b : K) → StepsTo eq has_edge entries a b → HasEntry eq entries b
  leads_there a b step =
      let has = list_from_step a b step in
      let it = entry_at laws entries b has.2.0 has.2.2 in
      (it.0, (has.2.0, slice_get_within entries has.2.0 it.0 it.1, get_or_from_slice_get entries has.2.0 it.0 it.0 it.1), it.2)

module _ {K Z : Type 0} {eq : K → K → Bool} (laws : IsEquivalence eq) (keys : List K) (distinct : IsDistinct eq keys)
    (targets : List (Vec ℕ Z)) (within : (i j : ℕ) → IsTarget targets i j → j < length keys) where
  -- a key has one number
  pub one_place : (key : K) (i j : ℕ) → IsNumbered eq keys key i → IsNumbered eq keys key j → i ≡ j
  one_place key i j first second = elim (cases_eq i j) [
    | inl same ↦ same
    | inr other ↦ elim (cases_lt i j) [
      | inl less ↦ absurd (twice i j less first second)
      | inr most ↦ absurd (twice j i (omega (arith, other, most)) second first)
    ]
  ]
    where
      twice : (m n : ℕ) → m < n → IsNumbered eq keys key m → IsNumbered eq keys key n → ⊥
      twice m n less low high =
          let first_one = some_with (slice_get keys m) (λ name. IsTrue (eq key name)) low in
          let last_one = some_with (slice_get keys n) (λ name. IsTrue (eq key name)) high in
          let below = number_below eq keys key n high in
          let apart = apart_from_distinct eq keys m n key distinct less below in
          let same : eq (get_or keys m key) (get_or keys n key) ≡ true =
          ap (eq (get_or keys m key)) (get_or_from_slice_get keys n last_one.0 key last_one.1)
          ∙ (ap (λ k. eq k last_one.0) (get_or_from_slice_get keys m first_one.0 key first_one.1)
          ∙ eq_trans laws first_one.0 key last_one.0 (eq_back laws key first_one.0 first_one.2) last_one.2) in
          both_ways (eq (get_or keys m key) (get_or keys n key)) apart same

  -- a chain by numbers is one of the keys that have them
  pub chain_of_keys : {i j : ℕ} → Chain (IsTarget targets) i j → (a b : K) → IsNumbered eq keys a i → IsNumbered eq keys b j
      → Chain (ListHas eq keys targets) a b
  chain_of_keys = keys_from_numbers (IsNumbered eq keys) (ListHas eq keys targets) (IsTarget targets)
      (λ i j edge. elim ((slice_get_cases keys j).1) [
        | inl it ↦ (it.0, numbered_from_name eq keys it.0 it.0 j it.2 (laws.refl it.0))
        | inr past ↦ let below = within i j edge in absurd (omega (arith, below, past.0))
      ])
      (λ i j a b edge first last. (i, first, (j, edge, last)))

  -- and the other way round
  pub chain_of_numbers : {a b : K} → Chain (ListHas eq keys targets) a b
      → (i : ℕ) × (j : ℕ) × IsNumbered eq keys a i × IsNumbered eq keys b j × Chain (IsTarget targets) i j
  chain_of_numbers = numbers_from_keys (IsNumbered eq keys) (ListHas eq keys targets) (IsTarget targets) one_place
      (λ a b has. (has.0, has.2.0, has.1, has.2.2, has.2.1))

-- an entry stands at the place of its value
pub entry_of_value : {K V : Type 0} (entries : List (K × V)) (i : ℕ) (value : V) → slice_get (values_of entries) i ≡ Some value
    → (e : K × V) × Contains entries e × (e.1 ≡ value)
entry_of_value {K = K} {V = V} entries i value there = elim ((slice_get_cases entries i).1) [
  | inl it ↦ (
    it.0,
    (i, it.1, it.3),
    same_Some it.0.1 value (sym (slice_get-map (λ (e : K × V). e.1) entries i ∙ ap (option_map (λ (e : K × V). e.1)) it.2) ∙ there),
  )
  | inr past ↦ absurd (none-some value
      (sym (slice_get-map (λ (e : K × V). e.1) entries i ∙ ap (option_map (λ (e : K × V). e.1)) past.1) ∙ there))
]

-- what a node lacks its table lacks
pub lack_of_table : {K V : Type 0} {eq : K → K → Bool} (laws : IsEquivalence eq) (has_edge : V → K → Bool)
    (entries : List (K × V)) (i : ℕ) (node : V) → slice_get (values_of entries) i ≡ Some node → (fault : TableFault K)
    → IsLack (HasEntry eq entries) (λ key. IsTrue (has_edge node key)) fault
    → IsLack (HasEntry eq entries) (λ key. (from : K) × StepsTo eq has_edge entries from key) fault
lack_of_table laws has_edge entries i node there (HasCycle key) lack = lack
lack_of_table laws has_edge entries i node there (Lacks key) lack =
    let it = entry_of_value entries i node there in
    ((it.0.0, (it.0, it.1, laws.refl it.0.0, ap (λ v. has_edge v key) it.2 ∙ lack.0)), lack.1)
lack_of_table laws has_edge entries i node there Memory lack = tt

-- what is put at a place stands there
item_put : {A : Type 0} (items : List A) (place : ℕ) (item : A) → place < length items → slice_get (set items place item) place ≡ Some item
item_put [] place item within = absurd (omega (arith, within))
item_put (first ∷ items) zero item within = refl
item_put (first ∷ items) (suc place) item within = item_put items place item (omega (arith, within))

-- and at other places stands what stood there
pub item_kept : {A : Type 0} (items : List A) (place i : ℕ) (item : A) → i ≢ place → slice_get (set items place item) i ≡ slice_get items i
item_kept [] place i item apart = refl
item_kept (first ∷ items) zero zero item apart = absurd (apart refl)
item_kept (first ∷ items) zero (suc i) item apart = refl
item_kept (first ∷ items) (suc place) zero item apart = refl
item_kept (first ∷ items) (suc place) (suc i) item apart = item_kept items place i item (λ same. apart (ap suc same))

-- items in turn up to a place, and one more that is put there
pub one_more_in_turn : {A B : Type 0} (R : ℕ → A → B → Type 0) (xs : List A) (ys : List B) (place : ℕ) (y : B) → place < length ys
    → ((i : ℕ) (a : A) (b : B) → i < place → slice_get xs i ≡ Some a → slice_get ys i ≡ Some b → R i a b)
    → ((a : A) → slice_get xs place ≡ Some a → R place a y)
    → (i : ℕ) (a : A) (b : B) → i < place + 1 → slice_get xs i ≡ Some a → slice_get (set ys place y) i ≡ Some b → R i a b
one_more_in_turn R xs ys place y within before here i a b below was is = by (ltb i place) refl
  where
    by : (lower : Bool) → ltb i place ≡ lower → R i a b
    by true lower =
        let under = ltb-true i place lower in
        before i a b under was (sym (item_kept ys place i y (λ same. omega (arith, under, same))) ∙ is)
    by false other =
        let same : place ≡ i = omega (arith, ltb-false i place other, below) in
        let put : y ≡ b = same_Some y b (sym (item_put ys place y within) ∙ subst (λ k. slice_get (set ys place y) k ≡ Some b) (sym same) is) in
        subst (λ k. R k a b) same (subst (λ it. R place a it) put (here a (subst (λ k. slice_get xs k ≡ Some a) (sym same) was)))

module _ {K V : Type 0} (eq : K → K → Bool) (has_edge : V → K → Bool) (is_alike : V → V → Type 0) (names : List K)
    (list known added : List ℕ) (only : (number : ℕ) → Contains added number → Contains list number)
    (all : (number : ℕ) → Contains list number → Contains known number ⊎ Contains added number) (old new : V)
    (has : (to : K) → StandsIn eq names known to → IsTrue (has_edge old to)) where
  -- a node that had the known edges, and gained those after them, has gained those of the whole
  -- list
  pub grown_after : GrowsBy has_edge is_alike old new (StandsIn eq names added)
      → ((to : K) → StandsIn eq names added to → IsTrue (has_edge new to))
      → IsGrown has_edge is_alike (StandsIn eq names list) old new
  grown_after grows complete = record {
    grows = grows_weaker has_edge is_alike (StandsIn eq names added) (StandsIn eq names list)
        (λ to it. (it.0, only it.0 it.1, it.2)) old new grows;
    complete = λ to it. elim (all it.0 it.1) [
      | inl before ↦ grows.old_stay to (has to (it.0, before, it.2))
      | inr later ↦ complete to (it.0, later, it.2)
    ];
  }
