use Rattle.cedar_name_resolution.proofs.ShadowLemmas.{PassedSoFar}
use Rattle.cedar_name_resolution.proofs.defs.all_defs.AllDefs.are_actions_unqualified.Given as goal
use Rattle.cedar_name_resolution.specs.Words.{IsUnqualified, uid_of}

abbrev pub invariant-loop-uid : goal.invariant-loop-uid
invariant-loop-uid l = PassedSoFar (λ uid. IsUnqualified uid.ty) uid_of l.self.action_defs.keys l.uid-iterator
