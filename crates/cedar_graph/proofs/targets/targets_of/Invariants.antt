use Rattle.std.proofs.Common.{◌≡◌, ◌⊎◌, ℕ, true, IsTrue, Contains}
use Rattle.std.specs.List.{list_any}
use Rattle.cedar_graph.proofs.targets.targets_of.Given as goal
use Rattle.cedar_graph.specs.Numbering.{IsNumbered, AreNumbers, KeepsNumbers}

abbrev pub invariant-loop-target : goal.invariant-loop-target
invariant-loop-target g l = record {
  numbers : AreNumbers g.K.PartialEq.eq l.numbering.names.items l.numbering.numbers;
  kept : KeepsNumbers g.K.PartialEq.eq l.initial.numbering.names.items l.numbering.names.items;
  sound : (number : ℕ) → Contains l.targets.items number
      → (key : _) × IsNumbered g.K.PartialEq.eq l.numbering.names.items key number
      × IsTrue (g.V.TCNode.has_edge l.node key);
  complete : (key : _) → IsTrue (g.V.TCNode.has_edge l.node key)
      → ((number : ℕ) × IsNumbered g.K.PartialEq.eq l.numbering.names.items key number × Contains l.targets.items number)
      ⊎ (list_any (g.K.PartialEq.eq key) l.target-iterator ≡ true);
  rest : (key : _) → list_any (g.K.PartialEq.eq key) l.target-iterator ≡ true → IsTrue (g.V.TCNode.has_edge l.node key);
}
