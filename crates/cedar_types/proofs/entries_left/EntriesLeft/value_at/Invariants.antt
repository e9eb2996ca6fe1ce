use Rattle.std.proofs.Common.{length}
use Rattle.cedar_types.proofs.EntriesLeftSteps.{IsPast}
use Rattle.cedar_types.proofs.entries_left.EntriesLeft.value_at.Given as goal
use Rattle.cedar_types.specs.EntriesLeft.{entries_left}

abbrev pub invariant-loop-self : goal.invariant-loop-self
invariant-loop-self l = IsPast l.name (entries_left l.fn.self) (entries_left l.self)

abbrev pub decreases-loop-self : goal.decreases-loop-self
decreases-loop-self l = length (entries_left l.self)
