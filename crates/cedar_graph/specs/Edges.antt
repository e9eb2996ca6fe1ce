-- Edges between the nodes of a map, and what a chain of edges reaches.
use Rattle.std.specs.HashMap.{HashMap, get}
use Rattle.std.specs.Prelude.{Bool, IsTrue, IsSomeAnd, List, Option, None, Some, Contains}
use Rattle.cedar_ast.specs.Chain.{Chain}

module _ {K V S : Type 0} (eq : K → K → Bool) (has_edge : V → K → Bool) where
  -- a node stands at the first key, and has an edge to the second
  abbrev pub HasEdge : HashMap K V S → K → K → Type 0
  HasEdge nodes from to = IsSomeAnd (get eq nodes from) (λ node. IsTrue (has_edge node to))

module _ {K V S : Type 0} (eq : K → K → Bool) (has_edge : V → K → Bool) where
  -- a chain of one or more edges leads from the first key to the second
  abbrev pub Reaches : HashMap K V S → K → K → Type 0
  Reaches nodes from to = Chain (HasEdge eq has_edge nodes) from to

-- one of the edges goes from the first key to the second
abbrev pub IsEdgeIn : {K : Type 0} → (K → K → Bool) → List (K × K) → K → K → Type 0
IsEdgeIn {K = K} eq edges from to =
    (edge : K × K) × Contains edges edge × IsTrue (eq edge.0 from) × IsTrue (eq edge.1 to)

module _ {V : Type 0} (is_alike : V → V → Type 0) where
  -- what stands at a key before and after: two nodes that are alike but for edges, or none
  abbrev pub AreAlike : Option V → Option V → Type 0
  AreAlike None None = Unit {0}
  AreAlike None (Some new) = ⊥
  AreAlike (Some old) None = ⊥
  AreAlike (Some old) (Some new) = is_alike old new
