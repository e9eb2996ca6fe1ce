use Rattle.std.proofs.Common.{◌≡◌, length}
use Rattle.cedar_queries.proofs.selected.SelectedEntriesIterator.next.Given as goal
use Rattle.cedar_queries.specs.Selected.{entries_where}

abbrev pub invariant-loop-key : goal.invariant-loop-key
invariant-loop-key g l = entries_where (g.T.Test.holds l.self-inside.test) l.self-inside.rest ≡ l.fn.self

abbrev pub decreases-loop-key : goal.decreases-loop-key
decreases-loop-key g l = length l.self-inside.rest
