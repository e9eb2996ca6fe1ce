-- Nodes before and after they are linked.
use Rattle.std.proofs.Common.{◌≡◌, ◌⊎◌, ◌↔◌, Bool, IsTrue, List, [], ◌∷◌, Option, None, Some, IsSome, IsSomeAnd, map, arith, ap, refl, sym, subst, ◌∙◌, inl, inr, Contains}
use Rattle.std.proofs.lemmas.Bool.{cases_Bool, cond-false, cond-true, false≢true}
use Rattle.std.proofs.lemmas.List.Elements.{Contains-append_right}
use Rattle.std.specs.Cmp.{IsEquivalence}
use Rattle.std.specs.Map.{lookup}
use Rattle.cedar_ast.proofs.Lists.{Contains-cons_cases, Contains-preimage}
use Rattle.cedar_ast.specs.Words.{HoldsPairwise}
use Rattle.cedar_builder.proofs.AtKeys.{entry_where}
use Rattle.cedar_builder.specs.Words.{AreAlike, AreLocated, AreReady, Chain, HasCycle, HasEntry, IsCollectedAt, IsEdgeIn, IsEndIn, IsFaultOf, IsLinkedTo, Lacks, Leads, Memory, TableFault, at_key, more, one}
use Rattle.cedar_graph.proofs.Numbers.{eq_back, eq_trans}

module _ {Node : Type 0} (is_alike : Node → Node → Type 0) where
  -- what stands before a node that stands after
  pub alike_before : (before : Option Node) (it : Node) → AreAlike is_alike before (Some it)
      → (old : Node) × (before ≡ Some old) × is_alike old it
  alike_before None it alike = absurd alike
  alike_before (Some old) it alike = (old, refl, alike)

  -- what stood before still stands
  pub alike_after : (before after : Option Node) → AreAlike is_alike before after → IsSome before → IsSome after
  alike_after None None alike there = there
  alike_after (Some old) (Some new) alike there = there
  alike_after _ _ alike there = absurd alike

module _ {K Node : Type 0} (R : K × Node → K × Node → Type 0) where
  -- an entry of the second list goes with one of the first
  pub partner : (before after : List (K × Node)) → HoldsPairwise R before after → (entry : K × Node) → Contains after entry
      → (old : K × Node) × Contains before old × R old entry
  partner [] [] pairs entry among = absurd (omega (arith, among.1))
  partner (x ∷ xs) (y ∷ ys) pairs entry among = elim (Contains-cons_cases y ys entry among) [
    | inl same ↦ (x, (0, omega arith, refl), subst (R x) same pairs.0)
    | inr later ↦ let it = partner xs ys pairs.1 entry later in (it.0, Contains-append_right (x ∷ []) xs it.0 it.1, it.2)
  ]
  partner _ _ pairs entry among = absurd pairs

  module _ (same_keys : (x y : K × Node) → R x y → y.0 ≡ x.0) (test : K → Bool) where
    -- what a test finds in two lists goes together: nothing, or the nodes of such entries
    pub found_together : (before after : List (K × Node)) → HoldsPairwise R before after
        → ((lookup test before ≡ None) × (lookup test after ≡ None))
        ⊎ ((x y : K × Node) × Contains before x × IsTrue (test x.0) × R x y × (lookup test before ≡ Some x.1) × (lookup test after ≡ Some y.1))
    found_together [] [] pairs = inl (refl, refl)
    found_together (x ∷ xs) (y ∷ ys) pairs = elim (cases_Bool (test x.0)) [
      | inl is ↦ inr (
        x,
        y,
        (0, omega arith, refl),
        is,
        pairs.0,
        cond-true (test x.0) (Some x.1) (lookup test xs) is,
        cond-true (test y.0) (Some y.1) (lookup test ys) (ap test (same_keys x y pairs.0) ∙ is),
      )
      | inr apart ↦
          let first : lookup test (x ∷ xs) ≡ lookup test xs = cond-false (test x.0) (Some x.1) (lookup test xs) apart in
          let other : lookup test (y ∷ ys) ≡ lookup test ys =
          cond-false (test y.0) (Some y.1) (lookup test ys) (ap test (same_keys x y pairs.0) ∙ apart) in
          elim (found_together xs ys pairs.1) [
            | inl none ↦ inl (first ∙ none.0, other ∙ none.1)
            | inr it ↦ inr (it.0, it.1, Contains-append_right (x ∷ []) xs it.0 it.2, it.3, it.4, first ∙ it.5, other ∙ it.6)
          ]
    ]
    found_together _ _ pairs = absurd pairs

module _ {K : Type 0} {eq : K → K → Bool} (laws : IsEquivalence eq) (edges : List (K × K)) where
  -- a chain of edges is from each equal key
  pub chain_from : (a b : K) {other : K} → IsTrue (eq a b) → Chain (IsEdgeIn eq edges) b other → Chain (IsEdgeIn eq edges) a other
  chain_from a b same (one (edge, among, from, to)) = one (edge, among, eq_trans laws edge.0 b a from (eq_back laws a b same), to)
  chain_from a b same (more (edge, among, from, to) rest) =
      more (edge, among, eq_trans laws edge.0 b a from (eq_back laws a b same), to) rest

module _ {K Node : Type 0} {eq : K → K → Bool} (laws : IsEquivalence eq) (has_edge : Node → K → Bool) (is_alike : Node → Node → Type 0)
    (edges : List (K × K)) (before after : List (K × Node))
    (pairs : HoldsPairwise (IsLinkedTo has_edge is_alike (IsEdgeIn eq edges)) before after) where
  abbrev Linked : K × Node → K × Node → Type 0
  Linked = IsLinkedTo has_edge is_alike (IsEdgeIn eq edges)

  -- what stands at a key before and after
  abbrev Together : K → Type 0
  Together key = ((at_key eq before key ≡ None) × (at_key eq after key ≡ None))
      ⊎ ((x y : K × Node) × Contains before x × IsTrue (eq key x.0) × Linked x y × (at_key eq before key ≡ Some x.1)
      × (at_key eq after key ≡ Some y.1))

  together : (key : K) → Together key
  together key = found_together Linked (λ x y linked. linked.key) (eq key) before after pairs

  -- is alike
  pub linked_alike : (key : K) → AreAlike is_alike (at_key eq before key) (at_key eq after key)
  linked_alike key = elim (together key) [
    | inl none ↦ rw (none.0, none.1) tt
    | inr it ↦ rw (it.5, it.6) it.4.grown.grows.alike
  ]

  -- nodes keep their locations
  pub linked_located : (IsLocatedAs : K → Node → Type 0)
      → ((key : K) (a b : Node) → is_alike a b → IsLocatedAs key a → IsLocatedAs key b)
      → AreLocated IsLocatedAs before → AreLocated IsLocatedAs after
  linked_located IsLocatedAs carry located entry among =
      let it = partner Linked before after pairs entry among in
      subst (λ key. IsLocatedAs key entry.1) (sym it.2.key) (carry it.0.0 it.0.1 entry.1 it.2.grown.grows.alike (located it.0 it.1))

  module _ (ready : AreReady eq has_edge edges before) where
    -- a chain of edges begins where something stands
    begins : {upper lower : K} → Chain (IsEdgeIn eq edges) upper lower → IsSome (at_key eq before upper)
    begins {upper = upper} {lower = lower} (one step) = ready.ancestors upper lower step
    begins {upper = upper} (more {b = between} step rest) = ready.ancestors upper between step

    -- a node leads to another just where a chain of edges does
    pub linked_leads : (upper lower : K) → Leads eq has_edge after upper lower ↔ Chain (IsEdgeIn eq edges) upper lower
    linked_leads upper lower = (
      λ leads. elim (together upper) [
        | inl none ↦ absurd (rw none.1 at leads)
        | inr it ↦
            let has : IsTrue (has_edge it.1.1 lower) = rw it.6 at leads in
            elim (it.4.grown.grows.sound lower has) [
              | inl old ↦ absurd (ready.apart upper lower (rw it.5 old))
              | inr chain ↦ chain_from laws edges upper it.0.0 it.3 chain
            ]
      ],
      λ chain. elim (together upper) [
        | inl none ↦ absurd (false≢true (rw none.0 at (begins chain)))
        | inr it ↦ rw it.6 (it.4.grown.complete lower (chain_from laws edges it.0.0 upper (eq_back laws upper it.0.0 it.3) chain))
      ],
    )

module _ {K Node : Type 0} {eq : K → K → Bool} (laws : IsEquivalence eq) (has_edge : Node → K → Bool) (edges : List (K × K))
    (before : List (K × Node)) (ready : AreReady eq has_edge edges before) where
  -- a key that is equal to one at which something stands has an entry
  equal_entry : (other key : K) → IsTrue (eq other key) → IsSome (at_key eq before other) → HasEntry eq before key
  equal_entry other key same there =
      let it = entry_where eq before other there in
      (it.0, it.1, eq_trans laws key other it.0.0 (eq_back laws other key same) it.2)

  -- where both ends of each edge stand, a cycle alone is refused
  pub cycle_alone : (OnCycle : K → Type 0) (fault : TableFault K)
      → IsFaultOf OnCycle (λ key. IsEndIn eq edges key × ¬ HasEntry eq before key) fault → IsFaultOf OnCycle (λ key. ⊥) fault
  cycle_alone OnCycle (HasCycle key) is = is
  cycle_alone OnCycle (Lacks key) (it, lacks) =
      let edge = it.0 in
      let itself : IsEdgeIn eq edges edge.0 edge.1 = (edge, it.1, laws.refl edge.0, laws.refl edge.1) in
      elim it.2 [
        | inl from ↦ lacks (equal_entry edge.0 key from (ready.ancestors edge.0 edge.1 itself))
        | inr to ↦ lacks (equal_entry edge.1 key to (ready.lowers edge.0 edge.1 itself))
      ]
  cycle_alone OnCycle Memory is = is

module _ {K Name Node : Type 0} (eq : K → K → Bool) (key_name : K → Name) (has_edge : Node → K → Bool) (keys : Node → List K)
    (edge_below : (it : Node) (key : K) → IsTrue (has_edge it key) ↔ Contains (map key_name (keys it)) (key_name key)) where
  -- nodes that are collected, each without descendants, have no edges
  pub collected_apart : {Body : Type 0} (is_definition : Body → Bool) (IsExternal : Node → Type 0) (node_name : Node → Name)
      (Gives : Body → Node → Type 0) → ((body : Body) (it : Node) → Gives body it → map key_name (keys it) ≡ []) → (entries : List (Name × Body))
      → (nodes : List (K × Node)) → ((key : K) → IsCollectedAt is_definition IsExternal node_name Gives entries (key_name key) (at_key eq nodes key))
      → (upper lower : K) → ¬ Leads eq has_edge nodes upper lower
  collected_apart is_definition IsExternal node_name Gives childless entries nodes collected upper lower edge = by (at_key eq nodes upper) (collected upper) edge where
    by : (o : Option Node) → IsCollectedAt is_definition IsExternal node_name Gives entries (key_name upper) o → ¬ IsSomeAnd o (λ it. IsTrue (has_edge it lower))
    by None none has = has
    by (Some it) is has =
        let below = rw (childless is.body it is.given) at ((edge_below it lower).0 has) in
        omega (arith, below.1)

  -- the descendants of a node are those that chains of edges lead to, in words of names
  pub descendants : (edges : List (K × K)) (IsDescendant : Name → Name → Type 0)
      → ((upper lower : K) → Chain (IsEdgeIn eq edges) upper lower → IsDescendant (key_name lower) (key_name upper))
      → ((lower upper : Name) → IsDescendant lower upper → (key : K) → upper ≡ key_name key
      → (found : K) × (key_name found ≡ lower) × Chain (IsEdgeIn eq edges) key found)
      → (nodes : List (K × Node))
      → ((upper lower : K) → Leads eq has_edge nodes upper lower ↔ Chain (IsEdgeIn eq edges) upper lower)
      → (key : K) (it : Node) → at_key eq nodes key ≡ Some it → (lower : Name)
      → Contains (map key_name (keys it)) lower ↔ IsDescendant lower (key_name key)
  descendants edges IsDescendant chain_descends descends_by_chain nodes linked key it found lower = (
    λ among.
        let named = Contains-preimage key_name (keys it) lower among in
        let has : IsTrue (has_edge it named.0) =
        (edge_below it named.0).1 (rw named.2 among) in
        rw named.2 at (chain_descends key named.0 ((linked key named.0).0 (rw found has))),
    λ descends.
        let chain = descends_by_chain lower (key_name key) descends key refl in
        let has : IsTrue (has_edge it chain.0) =
        rw found at ((linked key chain.0).1 chain.2) in
        rw chain.1 at ((edge_below it chain.0).0 has),
  )
