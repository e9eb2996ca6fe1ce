use Rattle.std.proofs.Common.{[], ◌∷◌}
use Rattle.cedar_diagnosis.proofs.ListedSoFar.{ListedSoFar}
use Rattle.cedar_diagnosis.proofs.cycles.in_order.Given as goal

abbrev pub invariant-loop-key : goal.invariant-loop-key
invariant-loop-key g l = ListedSoFar (λ key. key ∷ []) [] l.fn.keys.keys l.names.items l.key-iterator
