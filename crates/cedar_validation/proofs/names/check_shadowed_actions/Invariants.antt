use Rattle.std.specs.Map.{keys_of}
use Rattle.cedar_validation.proofs.Checking.{Checking}
use Rattle.cedar_validation.proofs.Shadowed.{ShadowsNoAction}
use Rattle.cedar_validation.proofs.names.check_shadowed_actions.Given as goal

abbrev pub invariant-loop-uid : goal.invariant-loop-uid
invariant-loop-uid l =
    Checking (ShadowsNoAction l.parts) (keys_of l.parts.actions.entries) l.uid-iterator
