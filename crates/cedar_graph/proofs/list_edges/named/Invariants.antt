use Rattle.std.proofs.Common.{ℕ, ◌<◌, IsTrue, get_or}
use Rattle.std.specs.List.{list_any}
use Rattle.cedar_graph.proofs.list_edges.named.Given as goal
use Rattle.cedar_graph.specs.Words.{IsNumbered, StandsIn}

abbrev pub invariant-loop-number : goal.invariant-loop-number
invariant-loop-number g l = record {
  sound : (to : _) → IsTrue (list_any (g.K.PartialEq.eq to) l.keys.items)
      → StandsIn g.K.PartialEq.eq l.names.items l.numbers to;
  complete : (k : ℕ) (to : _) → k < l.number-index → IsNumbered g.K.PartialEq.eq l.names.items to (get_or l.numbers k 0)
      → IsTrue (list_any (g.K.PartialEq.eq to) l.keys.items);
}
