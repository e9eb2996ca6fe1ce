use Rattle.cedar_table.specs.Entries.{HasKey}
use Rattle.cedar_validation.proofs.Checking.{Checking}
use Rattle.cedar_validation.proofs.request_types.missing.Given as goal

abbrev pub invariant-loop-key : goal.invariant-loop-key
invariant-loop-key g l = Checking (HasKey g.K.Ord.cmp l.map) l.fn.keys l.key-iterator
