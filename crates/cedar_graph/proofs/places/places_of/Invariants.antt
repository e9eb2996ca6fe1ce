use Rattle.std.proofs.Common.{◌≡◌, ◌⊎◌, ℕ, true, IsTrue, Contains}
use Rattle.std.specs.List.{list_any}
use Rattle.std.specs.Map.{keys_of}
use Rattle.cedar_graph.proofs.places.places_of.Given as goal
use Rattle.cedar_graph.specs.Numbering.{IsNumbered}

abbrev pub invariant-loop-key : goal.invariant-loop-key
invariant-loop-key g l =
    let eq = g.K.PartialEq.eq in
    let keys = keys_of l.nodes.entries in
    record {
      sound : (place : ℕ) → Contains l.places.items place
          → (key : _) × IsNumbered eq keys key place × IsTrue (g.V.TCNode.has_edge l.node key);
      complete : (key : _) → IsTrue (g.V.TCNode.has_edge l.node key)
          → ((place : ℕ) × IsNumbered eq keys key place × Contains l.places.items place)
          ⊎ (list_any (eq key) l.key-iterator ≡ true);
      rest : (key : _) → list_any (eq key) l.key-iterator ≡ true → IsTrue (g.V.TCNode.has_edge l.node key);
    }
