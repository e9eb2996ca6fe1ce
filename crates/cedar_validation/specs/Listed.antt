-- What the nodes under the keys of a map list by name, and the same nodes with all that chains of
-- these lead to.
use Rattle.std.specs.Prelude.{◌≡◌, ◌↔◌, Bool, Contains, IsTrue, List, ⊤}
use Rattle.cedar_ast.specs.Chain.{Chain}
use Rattle.cedar_graph.specs.declared.table_fault.TableFault.{TableFault}
use Rattle.cedar_graph.specs.declared.table_fault.TableFault.TheVariants.{HasCycle, Lacks, Memory}

module _ {K V P : Type 0} (under : K → P) (below : V → List P) (entries : List (K × V)) where
  -- an entry of the second name lists the first
  abbrev pub ListsIn : P → P → Type 0
  ListsIn lower upper = (entry : K × V) × Contains entries entry × (under entry.0 ≡ upper)
      × Contains (below entry.1) lower

  -- one or more steps of what is listed lead from the second name to the first
  abbrev pub DescendsTo : P → P → Type 0
  DescendsTo = Chain ListsIn

module _ {K V P : Type 0} (under : K → P) (below : V → List P) (entries : List (K × V)) where
  -- why what is listed can't be closed: a name leads back to itself where none may, or one is
  -- listed that no entry has; an answer of memory says nothing
  abbrev pub IsListFault : Bool → TableFault K → Type 0
  IsListFault enforce_dag (HasCycle key) =
      IsTrue enforce_dag × DescendsTo under below entries (under key) (under key)
  IsListFault enforce_dag (Lacks key) =
      ((upper : P) × ListsIn under below entries (under key) upper)
      × ¬ ((entry : K × V) × Contains entries entry × (under entry.0 ≡ under key))
  IsListFault enforce_dag Memory = ⊤

-- the entries have one name and are alike, and the second lists just what chains lead to from that
-- name
pub record IsClosedOf {K V P : Type 0} (under : K → P) (below : V → List P)
    (is_alike : V → V → Type 0) (entries : List (K × V))
    (it closed : K × V) : Type 0 where
  pub key : under it.0 ≡ under closed.0
  pub alike : is_alike it.1 closed.1
  pub below_it : (lower : P) → Contains (below closed.1) lower
      ↔ DescendsTo under below entries lower (under it.0)
