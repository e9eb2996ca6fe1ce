use Rattle.std.proofs.Common.{◌≡◌, ◌<◌, ◌≤◌, ℕ, vec_len, length, drop, IfSome, slice_get}
use Rattle.std.specs.HashMap.{values}
use Rattle.cedar_graph.proofs.targets.all_targets.Given as goal
use Rattle.cedar_graph.specs.Words.{AreNumbers, AreNumbersOf, KeepsNumbers, items_at}

abbrev pub invariant-loop-node : goal.invariant-loop-node
invariant-loop-node g l = record {
  numbers : AreNumbers g.K.PartialEq.eq l.numbering.names.items l.numbering.numbers;
  kept : KeepsNumbers g.K.PartialEq.eq l.initial.numbering.names.items l.numbering.names.items;
  rest : l.node-iterator ≡ drop (vec_len l.targets) (values l.nodes);
  bound : vec_len l.targets ≤ length (values l.nodes);
  targets : (i : ℕ) → i < vec_len l.targets → IfSome (slice_get (values l.nodes) i)
      (λ node. AreNumbersOf g.K.PartialEq.eq l.numbering.names.items (g.V.TCNode.has_edge node)
      (items_at l.targets.items i));
}
