use Rattle.std.specs.Map.{keys_of}
use Rattle.cedar_validation.proofs.Checking.{Checking}
use Rattle.cedar_validation.proofs.names.check_action_types.Given as goal
use Rattle.cedar_validation.specs.Words.{IsActionType, uid_of}

abbrev pub invariant-loop-uid : goal.invariant-loop-uid
invariant-loop-uid l =
    Checking (λ uid. IsActionType (uid_of uid).ty) (keys_of l.parts.actions.entries) l.uid-iterator
