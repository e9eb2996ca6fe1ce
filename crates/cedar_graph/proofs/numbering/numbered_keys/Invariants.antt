use Rattle.std.proofs.Common.{◌≡◌, ℕ, ◌<◌, ◌≤◌, vec_len, length, drop, IfSome, slice_get}
use Rattle.std.specs.HashMap.{keys}
use Rattle.cedar_graph.proofs.numbering.numbered_keys.Given as goal
use Rattle.cedar_graph.specs.Numbering.{IsNumbered, AreNumbers}

abbrev pub invariant-loop-key : goal.invariant-loop-key
invariant-loop-key g l = record {
  numbers : AreNumbers g.K.PartialEq.eq l.numbering.names.items l.numbering.numbers;
  rest : l.key-iterator ≡ drop (vec_len l.numbering.names) (keys l.nodes);
  bound : vec_len l.numbering.names ≤ length (keys l.nodes);
  in_order : (i : ℕ) → i < vec_len l.numbering.names
      → IfSome (slice_get (keys l.nodes) i) (λ key. IsNumbered g.K.PartialEq.eq l.numbering.names.items key i);
}
