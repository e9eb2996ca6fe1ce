-- Entries whose edges between keys list names, and the same entries closed, whatever the keys and
-- the nodes are.
use Rattle.std.proofs.Common.{◌≡◌, ◌↔◌, Bool, IsTrue, List, ap, sym, refl, Contains}
use Rattle.std.specs.Cmp.{IsEquivalence}
use Rattle.cedar_ast.proofs.Chains.{first_step, joined, last_step}
use Rattle.cedar_validation.specs.Words.{Chain, HasCycle, HasEntry, IsClosedOf, IsClosedTo, IsListFault, IsTableFault, Lacks, ListsIn, Memory, StepsTo, TableFault, more, one}

-- keys and nodes, with what the keys stand for, and what the nodes list
pub record Graph (K V P : Type 0) : Type 1 where
  pub eq : K → K → Bool
  pub under : K → P
  pub below : V → List P
  pub has_edge : V → K → Bool
  pub is_alike : V → V → Type 0
  pub laws : IsEquivalence eq
  pub same : (a b : K) → IsTrue (eq a b) ↔ (under a ≡ under b)
  pub edge : (node : V) (key : K) → IsTrue (has_edge node key) ↔ Contains (below node) (under key)
  pub key_below : (node : V) (name : P) → Contains (below node) name → (key : K) × (under key ≡ name)

module _ {K V P : Type 0} (graph : Graph K V P) (entries : List (K × V)) where
  -- what the entries list by name
  abbrev Lists : P → P → Type 0
  Lists = ListsIn graph.under graph.below entries

  -- the edges between their keys
  abbrev Steps : K → K → Type 0
  Steps = StepsTo graph.eq graph.has_edge entries

  -- an edge between keys lists what these stand for
  lists_of : (upper lower : K) → Steps upper lower → Lists (graph.under lower) (graph.under upper)
  lists_of upper lower step =
      (step.0, step.1, sym ((graph.same upper step.0.0).0 step.2), (graph.edge step.0.1 lower).0 step.3)

  -- and the other way round
  edge_of : (upper lower : K) → Lists (graph.under lower) (graph.under upper) → Steps upper lower
  edge_of upper lower lists =
      (lists.0, lists.1, (graph.same upper lists.0.0).1 (sym lists.2), (graph.edge lists.0.1 lower).1 lists.3)

  -- a chain of edges, inverted, is one of names
  pub names_chain : {upper lower : K} → Chain Steps upper lower → Chain Lists (graph.under lower) (graph.under upper)
  names_chain {upper = upper} {lower = lower} (one step) = one (lists_of upper lower step)
  names_chain {upper = upper} (more {b = middle} step rest) = joined (names_chain rest) (one (lists_of upper middle step))

  -- and the other way round
  pub keys_chain : {p q : P} → Chain Lists p q → (lower upper : K) → graph.under lower ≡ p → graph.under upper ≡ q
      → Chain Steps upper lower
  keys_chain {p = p} {q = q} (one step) lower upper is_lower is_upper =
      one (edge_of upper lower (rw (sym is_lower, sym is_upper) at step))
  keys_chain {p = p} (more {b = middle} step rest) lower upper is_lower is_upper =
      joined (keys_chain rest step.0.0 upper step.2 is_upper)
      (one (edge_of step.0.0 lower (rw (sym is_lower, sym step.2) at step)))

  -- where no key is on a cycle, no name is
  pub none_on_cycle : ((key : K) → ¬ Chain Steps key key) → (name : P) → ¬ Chain Lists name name
  none_on_cycle none name chain =
      let last = last_step Lists name name chain in
      let key = last.1.0.0 in
      none key (keys_chain chain key key last.1.2 last.1.2)

  -- why the edges can't be closed is why the names can't
  pub refused_by_name : (enforce_dag : Bool) (refused : TableFault K)
      → IsTableFault Steps (HasEntry graph.eq entries) enforce_dag refused
      → IsListFault graph.under graph.below entries enforce_dag refused
  refused_by_name enforce_dag (HasCycle key) why = (why.0, names_chain why.1)
  refused_by_name enforce_dag (Lacks key) why = (
    (graph.under why.0.0, lists_of why.0.0 key why.0.1),
    λ has. why.1 (has.0, has.1, (graph.same key has.0.0).1 (sym has.2)),
  )
  refused_by_name enforce_dag Memory why = tt

  -- an entry whose node is closed lists what chains lead to
  pub closed_by_name : (it closed : K × V) → IsClosedTo graph.has_edge graph.is_alike Steps it closed
      → IsClosedOf graph.under graph.below graph.is_alike entries it closed
  closed_by_name it closed is = record {
    key = ap graph.under (sym is.key);
    alike = is.alike;
    below_it = λ lower. (
      λ listed.
          let key = graph.key_below closed.1 lower listed in
          let edge = (graph.edge closed.1 key.0).1 (rw (sym key.1) at listed) in
          rw key.1 at (names_chain ((is.edges key.0).0 edge)),
      λ chain.
          let first = first_step Lists lower (graph.under it.0) chain in
          let key = graph.key_below first.1.0.1 lower first.1.3 in
          rw key.1 at ((graph.edge closed.1 key.0).0 ((is.edges key.0).1 (keys_chain chain key.0 it.0 key.1 refl))),
    );
  }
