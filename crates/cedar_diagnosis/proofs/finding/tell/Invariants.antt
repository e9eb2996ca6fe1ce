use Rattle.std.proofs.Common.{[], ◌∷◌, map}
use Rattle.cedar_diagnosis.proofs.ListedSoFar.{ListedSoFar}
use Rattle.cedar_diagnosis.proofs.finding.tell.Given as goal
use Rattle.cedar_schema_semantics.specs.Words.{fault_of}

abbrev pub invariant-loop-key : goal.invariant-loop-key
invariant-loop-key g l =
    ListedSoFar (λ key. g.F.FaultKind.fault key ∷ []) (map fault_of l.fn.faults.items) l.fn.keys.keys (map fault_of l.faults.items) l.key-iterator
