use Rattle.std.proofs.Common.{map}
use Rattle.cedar_name_resolution.proofs.SetLemmas.{AddedSoFar}
use Rattle.cedar_name_resolution.proofs.defs.all_defs.AllDefs.with_action_types.Given as goal
use Rattle.cedar_name_resolution.specs.Words.{name_of, uid_of}

abbrev pub invariant-loop-uid : goal.invariant-loop-uid
invariant-loop-uid l =
    AddedSoFar (λ uid. (uid_of uid).ty) (map name_of l.initial.entity_defs.keys) l.fn.self.action_defs.keys
    (map name_of l.entity_defs.keys) l.uid-iterator
