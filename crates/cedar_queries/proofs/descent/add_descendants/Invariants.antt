use Rattle.std.proofs.Common.{◌≡◌, ◌++◌}
use Rattle.cedar_queries.proofs.descent.add_descendants.Given as goal

abbrev pub invariant-loop-descendant : goal.invariant-loop-descendant
invariant-loop-descendant l = l.names.items ≡ l.initial.names.items ++ l.yielded
