use Rattle.std.proofs.Common.{◌≡◌}
use Rattle.std.specs.VecDeque.{deque_len}
use Rattle.cedar_json.proofs.map_builder.put_all_but.Given as goal
use Rattle.cedar_json.specs.Words.{IsAscending, all_put}

abbrev pub invariant-loop-waiting : goal.invariant-loop-waiting
invariant-loop-waiting g l = record {
  entries : all_put g.K.Ord.cmp l.map.entries l.waiting.items ≡ all_put g.K.Ord.cmp l.initial.map.entries l.initial.waiting.items;
  ascending : IsAscending g.K.Ord.cmp l.initial.waiting.items → IsAscending g.K.Ord.cmp l.waiting.items;
}

abbrev pub decreases-loop-waiting : goal.decreases-loop-waiting
decreases-loop-waiting g l = deque_len l.waiting
