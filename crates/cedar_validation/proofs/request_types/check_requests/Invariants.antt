use Rattle.cedar_validation.proofs.Checking.{Checking}
use Rattle.cedar_validation.proofs.request_types.check_requests.Given as goal
use Rattle.cedar_validation.specs.Words.{EntityType, HasEntityType, plain_parts, type_name}

abbrev pub invariant-loop-ty : goal.invariant-loop-ty
invariant-loop-ty l =
    Checking (λ (ty : EntityType). HasEntityType (plain_parts l.parts) (type_name ty)) l.fn.types l.ty-iterator
