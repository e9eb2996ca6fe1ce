use Rattle.cedar_validation.proofs.Checking.{Checking}
use Rattle.cedar_validation.proofs.request_types.check_actions.Given as goal
use Rattle.cedar_validation.specs.Words.{ArePlaced, EntityUID, ValidatorActionId, action_of, plain_parts}

abbrev pub invariant-loop-uid : goal.invariant-loop-uid
invariant-loop-uid l =
    Checking (λ (entry : EntityUID × ValidatorActionId). ArePlaced (plain_parts l.parts) (action_of entry.1))
    l.parts.actions.entries l._uid-iterator
