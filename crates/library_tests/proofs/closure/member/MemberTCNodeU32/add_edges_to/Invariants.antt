use Rattle.std.proofs.Common.{◌≡◌, ◌++◌, map}
use Rattle.std.specs.Map.Iter.{deref}
use Rattle.library_tests.proofs.closure.member.MemberTCNodeU32.add_edges_to.Given as goal

abbrev pub invariant-loop-owner : goal.invariant-loop-owner
invariant-loop-owner l = l.all.items ≡ l.fn.keys.items ++ map deref l.yielded
