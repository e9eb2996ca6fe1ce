use Rattle.std.proofs.Common.{map}
use Rattle.std.specs.Map.{keys_of}
use Rattle.cedar_validation.proofs.TypeSets.{TypesSoFar}
use Rattle.cedar_validation.proofs.known.action_types.Given as goal
use Rattle.cedar_validation.specs.Words.{HasAction, plain_parts, type_name}

abbrev pub invariant-loop-uid : goal.invariant-loop-uid
invariant-loop-uid l =
    TypesSoFar (HasAction (plain_parts l.parts)) (keys_of l.parts.actions.entries) (map type_name l.types.keys) l.uid-iterator
