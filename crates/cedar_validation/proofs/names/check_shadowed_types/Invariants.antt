use Rattle.std.specs.Map.{keys_of}
use Rattle.cedar_validation.proofs.Checking.{Checking}
use Rattle.cedar_validation.proofs.Shadowed.{ShadowsNoType}
use Rattle.cedar_validation.proofs.names.check_shadowed_types.Given as goal

abbrev pub invariant-loop-name : goal.invariant-loop-name
invariant-loop-name l =
    Checking (ShadowsNoType l.parts) (keys_of l.parts.entity_types.entries) l.name-iterator
