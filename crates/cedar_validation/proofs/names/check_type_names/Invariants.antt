use Rattle.std.specs.Map.{keys_of}
use Rattle.cedar_validation.proofs.Checking.{Checking}
use Rattle.cedar_validation.proofs.names.check_type_names.Given as goal
use Rattle.cedar_validation.specs.Words.{IsActionType, type_name}

abbrev pub invariant-loop-name : goal.invariant-loop-name
invariant-loop-name l =
    Checking (λ name. ¬ IsActionType (type_name name)) (keys_of l.parts.entity_types.entries) l.name-iterator
