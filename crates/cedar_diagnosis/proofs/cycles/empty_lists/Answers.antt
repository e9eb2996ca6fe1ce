use Rattle.std.proofs.Common.{arith}
use Rattle.cedar_diagnosis.proofs.cycles.empty_lists.Goals as goal
use Rattle.cedar_graph.proofs.TableLinking.{none_listed, still_none}

pub loop-place-init : goal.loop-place-init
loop-place-init c = record {
  len = c.in_ok-lists.ensures.len;
  empty = none_listed c.in_ok-lists.lists.items c.in_ok-lists.ensures.items;
}

pub loop-place-preserved : goal.loop-place-preserved
loop-place-preserved c = record {
  len = omega (arith, c.in_ok-push.ensures.len, c.loop-place.invariant.len);
  empty = rw c.in_ok-push.ensures.items (still_none c.loop-place.lists.items c.new.result c.new.ensures.items c.loop-place.invariant.empty);
}
