use Rattle.std.proofs.Common.{◌≡◌, ◌++◌}
use Rattle.cedar_queries.proofs.descent.add_actions_in.Given as goal

abbrev pub invariant-loop-descendant : goal.invariant-loop-descendant
invariant-loop-descendant l = l.uids.items ≡ l.initial.uids.items ++ l.yielded
