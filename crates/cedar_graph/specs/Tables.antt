-- Edges between the keys of a table, and tables whose nodes have gained edges.
use Rattle.std.specs.Prelude.{◌≡◌, ◌⊎◌, ◌↔◌, ℕ, Bool, Contains, IsTrue, List, Some, length, slice_get, ⊤}
use Rattle.cedar_ast.specs.Chain.{Chain}
use Rattle.cedar_graph.specs.Growth.{GrowsBy}
use Rattle.cedar_graph.specs.declared.table_fault.TableFault.{TableFault}
use Rattle.cedar_graph.specs.declared.table_fault.TableFault.TheVariants.{HasCycle, Lacks, Memory}

module _ {K V : Type 0} (eq : K → K → Bool) (entries : List (K × V)) where
  -- an entry has the key
  abbrev pub HasEntry : K → Type 0
  HasEntry key = (entry : K × V) × Contains entries entry × IsTrue (eq key entry.0)

module _ {K V : Type 0} (eq : K → K → Bool) (has_edge : V → K → Bool) (entries : List (K × V)) where
  -- an entry of the first key has an edge to the second
  abbrev pub StepsTo : K → K → Type 0
  StepsTo from to = (entry : K × V) × Contains entries entry × IsTrue (eq from entry.0)
      × IsTrue (has_edge entry.1 to)

-- the second entry has the key of the first, is alike but for edges, and has an edge to just those
-- keys to which a chain leads
pub record IsClosedTo {K V : Type 0} (has_edge : V → K → Bool) (is_alike : V → V → Type 0)
    (Leads : K → K → Type 0) (it closed : K × V) : Type 0 where
  pub key : closed.0 ≡ it.0
  pub alike : is_alike it.1 closed.1
  pub edges : (to : K) → IsTrue (has_edge closed.1 to) ↔ Chain Leads it.0 to

-- the key that is refused is one on a cycle, or one that is lacking; an answer of memory says
-- nothing
abbrev pub IsFaultOf : {K : Type 0} → (K → Type 0) → (K → Type 0) → TableFault K → Type 0
IsFaultOf OnCycle Lacking (HasCycle key) = OnCycle key
IsFaultOf OnCycle Lacking (Lacks key) = Lacking key
IsFaultOf OnCycle Lacking Memory = ⊤

-- a key isn't there to which an edge leads, or memory ran out
abbrev pub IsLack : {K : Type 0} → (K → Type 0) → (K → Type 0) → TableFault K → Type 0
IsLack There Edge = IsFaultOf (λ key. ⊥) (λ key. Edge key × ¬ There key)

-- a key leads back to itself where none may, or memory ran out
abbrev pub IsCycle : {K : Type 0} → (K → K → Type 0) → Bool → TableFault K → Type 0
IsCycle Leads enforce_dag = IsFaultOf (λ key. IsTrue enforce_dag × Chain Leads key key) (λ key. ⊥)

-- why a table isn't closed: a key leads back to itself where none may, or one leads to a key that
-- isn't there; an answer of memory says nothing
abbrev pub IsTableFault : {K : Type 0} → (K → K → Type 0) → (K → Type 0) → Bool → TableFault K
    → Type 0
IsTableFault {K = K} Leads There enforce_dag =
    IsFaultOf (λ key. IsTrue enforce_dag × Chain Leads key key)
    (λ key. ((from : K) × Leads from key) × ¬ There key)

module _ {K V : Type 0} (has_edge : V → K → Bool) (is_alike : V → V → Type 0) where
  -- the new node has gained edges to just those keys to which one may go
  pub record IsGrown (May : K → Type 0) (old new : V) : Type 0 where
    pub grows : GrowsBy has_edge is_alike old new May
    pub complete : (to : K) → May to → IsTrue (has_edge new to)

-- the second entry has the key of the first, and its node has gained edges to just those keys to
-- which a chain leads
pub record IsLinkedTo {K V : Type 0} (has_edge : V → K → Bool) (is_alike : V → V → Type 0)
    (Leads : K → K → Type 0) (it linked : K × V) : Type 0 where
  pub key : linked.0 ≡ it.0
  pub grown : IsGrown has_edge is_alike (Chain Leads it.0) it.1 linked.1

-- one of the edges goes from the key or to it
abbrev pub IsEndIn : {K : Type 0} → (K → K → Bool) → List (K × K) → K → Type 0
IsEndIn {K = K} eq edges key = (edge : K × K) × Contains edges edge
    × (IsTrue (eq edge.0 key) ⊎ IsTrue (eq edge.1 key))

-- the items of two lists that stand at one place are related, and the lists are as long
pub record AreInTurn {A B : Type 0} (R : ℕ → A → B → Type 0) (xs : List A) (ys : List B) :
    Type 0 where
  pub len : length ys ≡ length xs
  pub each : (i : ℕ) (x : A) (y : B) → slice_get xs i ≡ Some x → slice_get ys i ≡ Some y → R i x y
