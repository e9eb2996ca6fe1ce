-- The targets of places, filled from a list of edges, against these edges.
use Rattle.std.proofs.Common.{◌≡◌, ◌⊎◌, ◌++◌, ◌↔◌, ℕ, ◌<◌, ◌+◌, Bool, IfSome, IsTrue, List, [], ◌∷◌, Vec, Contains, length, set, slice_get, sym, ◌∙◌, ap, subst, arith, inl, inr}
use Rattle.std.proofs.lemmas.Bool.{cases_eq, cases_lt}
use Rattle.std.proofs.lemmas.List.{length-append}
use Rattle.std.proofs.lemmas.List.Elements.{Contains-append_left, Contains-push, Contains-push_cases}
use Rattle.std.proofs.lemmas.Option.{slice_get_cases}
use Rattle.std.specs.Cmp.{IsEquivalence}
use Rattle.std.specs.Map.{keys_of, values_of}
use Rattle.cedar_ast.proofs.Chains.{refined}
use Rattle.cedar_graph.proofs.Growing.{grows_weaker}
use Rattle.cedar_graph.proofs.KeyedEdges.{nothing_in_nil}
use Rattle.cedar_graph.proofs.Lists.{each_after_push, items_at-past, items_at-set_other, items_at-set_same}
use Rattle.cedar_graph.proofs.Numbers.{eq_back, number_alike, number_below, number_same}
use Rattle.cedar_graph.proofs.TableClosing.{pairwise_in_turn}
use Rattle.cedar_graph.specs.Words.{AreInTurn, AreTargetsOf, Chain, HasCycle, HoldsPairwise, IsEdgeIn, IsEndIn, IsFaultOf, IsGrown, IsLack, IsLinkedTo, IsNumbered, IsTarget, Lacks, ListHas, Memory, StandsIn, TableFault, items_at, one}

module _ {Z : Type 0} (targets : List (Vec ℕ Z)) (from to : ℕ) (list : Vec ℕ Z) (within : from < length targets)
    (is : list.items ≡ items_at targets from ++ to ∷ []) where
  -- the targets of the number, once one more is put there
  here : items_at (set targets from list) from ≡ items_at targets from ++ to ∷ []
  here = items_at-set_same targets from list within ∙ is

  -- the new target is there
  pub target_added : IsTarget (set targets from list) from to
  target_added = rw here (Contains-push (items_at targets from) to)

  -- and each old one
  pub target_kept : (i j : ℕ) → IsTarget targets i j → IsTarget (set targets from list) i j
  target_kept i j old = elim (cases_eq i from) [
    | inl same ↦ rw (same, here) (Contains-append_left (items_at targets from) (to ∷ []) j (rw same at old))
    | inr apart ↦ rw (items_at-set_other targets from list i apart) old
  ]

  -- and nothing else
  pub target_cases : (i j : ℕ) → IsTarget (set targets from list) i j → IsTarget targets i j ⊎ ((i ≡ from) × (j ≡ to))
  target_cases i j new = elim (cases_eq i from) [
    | inl same ↦ elim (Contains-push_cases (items_at targets from) to j (rw (same, here) at new)) [
      | inl before ↦ inl (rw same before)
      | inr last ↦ inr (same, sym last)
    ]
    | inr apart ↦ inl (rw (items_at-set_other targets from list i apart) at new)
  ]

module _ {K Z Y : Type 0} (eq : K → K → Bool) (names : List K) (edges : List (K × K)) (edge : K × K)
    (old : List (Vec ℕ Z)) (new : List (Vec ℕ Y)) (from to : ℕ) (first : IsNumbered eq names edge.0 from)
    (last : IsNumbered eq names edge.1 to) (added : IsTarget new from to)
    (kept : (i j : ℕ) → IsTarget old i j → IsTarget new i j)
    (only : (i j : ℕ) → IsTarget new i j → IsTarget old i j ⊎ ((i ≡ from) × (j ≡ to))) where
  -- with one more target, the targets are those of one more edge
  pub targets_of_more : AreTargetsOf eq names edges old → AreTargetsOf eq names (edges ++ edge ∷ []) new
  targets_of_more are = record {
    sound = λ i j target. elim (only i j target) [
      | inl before ↦ let it = are.sound i j before in
          (it.0, Contains-append_left edges (edge ∷ []) it.0 it.1, it.2, it.3)
      | inr here ↦ (edge, Contains-push edges edge, rw here.0 first, rw here.1 last)
    ];
    complete = λ each among. elim (Contains-push_cases edges edge each among) [
      | inl before ↦ let it = are.complete each before in (it.0, it.1, it.2, it.3, kept it.0 it.1 it.4)
      | inr same ↦ (from, to, rw same at first, rw same at last, added)
    ];
  }

-- without targets there are no edges
pub targets_of_none : {K Z : Type 0} (eq : K → K → Bool) (names : List K) (targets : List (Vec ℕ Z))
    → ((i j : ℕ) → ¬ IsTarget targets i j) → AreTargetsOf eq names [] targets
targets_of_none eq names targets none = record {
  sound = λ i j target. absurd (none i j target);
  complete = λ edge among. absurd (omega (arith, among.1));
}

module _ {K Z : Type 0} {eq : K → K → Bool} (laws : IsEquivalence eq) (names : List K) (edges : List (K × K))
    (targets : List (Vec ℕ Z)) (are : AreTargetsOf eq names edges targets) where
  -- a step by numbers is an edge of the list
  pub edge_from_list : (a b : K) → ListHas eq names targets a b → IsEdgeIn eq edges a b
  edge_from_list a b has =
      let it = are.sound has.0 has.2.0 has.2.1 in
      (it.0, it.1, number_same laws names it.0.0 a has.0 it.2 has.1, number_same laws names it.0.1 b has.2.0 it.3 has.2.2)

  -- and the other way round
  pub list_from_edge : (a b : K) → IsEdgeIn eq edges a b → ListHas eq names targets a b
  list_from_edge a b edge =
      let it = are.complete edge.0 edge.1 in (
        it.0,
        number_alike laws names a edge.0.0 it.0 (eq_back laws edge.0.0 a edge.2) it.2,
        (it.1, it.4, number_alike laws names b edge.0.1 it.1 (eq_back laws edge.0.1 b edge.3) it.3),
      )

  -- each target is the number of a name
  pub targets_within : (i j : ℕ) → IsTarget targets i j → j < length names
  targets_within i j target = let it = are.sound i j target in number_below eq names it.0.1 j it.3

-- no lists have no targets
pub none_listed : {Z : Type 0} (lists : List (Vec ℕ Z)) → lists ≡ [] → (i j : ℕ) → ¬ IsTarget lists i j
none_listed lists none i j target =
    nothing_in_nil j (subst (λ items. Contains items j) (ap (λ each. items_at each i) none ∙ items_at-past [] i (omega arith)) target)

-- nor have they with one more that is empty
pub still_none : {Z : Type 0} (lists : List (Vec ℕ Z)) (list : Vec ℕ Z) → list.items ≡ [] → ((i j : ℕ) → ¬ IsTarget lists i j)
    → (i j : ℕ) → ¬ IsTarget (lists ++ list ∷ []) i j
still_none lists list empty none i j target = elim (cases_lt i (length lists + 1)) [
  | inl below ↦ each_after_push (λ k items. ¬ Contains items j) lists list (rw empty (nothing_in_nil j)) (λ k before. none k j) i below target
  | inr past ↦ nothing_in_nil j (subst (λ items. Contains items j)
      (items_at-past (lists ++ list ∷ []) i (omega (arith, past, length-append lists (list ∷ [])))) target)
]

-- a key that is lacked and is an end of one of the edges
pub end_lacked : {K : Type 0} (eq : K → K → Bool) (edges : List (K × K)) (There Equal : K → Type 0)
    → ((key : K) → Equal key → IsEndIn eq edges key) → (fault : TableFault K) → IsLack There Equal fault
    → IsLack There (IsEndIn eq edges) fault
end_lacked eq edges There Equal ends (HasCycle key) lack = lack
end_lacked eq edges There Equal ends (Lacks key) lack = (ends key lack.0, lack.1)
end_lacked eq edges There Equal ends Memory lack = tt

-- an answer of lacking or of a cycle is one of either
pub fault_of_ends : {K : Type 0} (OnCycle Lacking : K → Type 0) (fault : TableFault K) → IsFaultOf (λ key. ⊥) Lacking fault
    → IsFaultOf OnCycle Lacking fault
fault_of_ends OnCycle Lacking (HasCycle key) lack = absurd lack
fault_of_ends OnCycle Lacking (Lacks key) lack = lack
fault_of_ends OnCycle Lacking Memory lack = tt

pub fault_of_cycle : {K : Type 0} (OnCycle Other Lacking : K → Type 0) → ((key : K) → OnCycle key → Other key) → (fault : TableFault K)
    → IsFaultOf OnCycle (λ key. ⊥) fault → IsFaultOf Other Lacking fault
fault_of_cycle OnCycle Other Lacking each (HasCycle key) is = each key is
fault_of_cycle OnCycle Other Lacking each (Lacks key) is = absurd is
fault_of_cycle OnCycle Other Lacking each Memory is = tt

module _ {K V : Type 0} (has_edge : V → K → Bool) (is_alike : V → V → Type 0) (entries linked : List (K × V))
    (Leads Edges : K → K → Type 0) (same : (a b : K) → Leads a b ↔ Edges a b) where
  -- nodes that have gained what chains of numbers lead to have gained what chains of edges lead to
  pub linked_pairwise : AreInTurn (λ i it other. (other.0 ≡ it.0) × IsGrown has_edge is_alike (Chain Leads it.0) it.1 other.1) entries linked
      → HoldsPairwise (IsLinkedTo has_edge is_alike Edges) entries linked
  linked_pairwise are =
      pairwise_in_turn (IsLinkedTo has_edge is_alike Edges) entries linked are.len
      (λ i x y there also.
      let it = are.each i x y there also in
      record {
        key = it.0;
        grown = record {
          grows = grows_weaker has_edge is_alike (Chain Leads x.0) (Chain Edges x.0)
              (λ to chain. refined (λ a b leads. one ((same a b).0 leads)) chain) x.1 y.1 it.1.grows;
          complete = λ to chain. it.1.complete to (refined (λ a b edge. one ((same a b).1 edge)) chain);
        };
      })

-- where there are no targets, each node has the edges to their keys
pub not_linked : {K V Z : Type 0} (eq : K → K → Bool) (has_edge : V → K → Bool) (entries : List (K × V)) (known : List (Vec ℕ Z))
    → ((i j : ℕ) → ¬ IsTarget known i j) → (i : ℕ) → IfSome (slice_get (values_of entries) i)
    (λ node. (to : K) → StandsIn eq (keys_of entries) (items_at known i) to → IsTrue (has_edge node to))
not_linked {K = K} eq has_edge entries known none i = elim ((slice_get_cases (values_of entries) i).1) [
  | inl it ↦ rw it.2 (λ to stands. absurd (none i stands.0 stands.1))
  | inr past ↦ rw past.1 tt
]
