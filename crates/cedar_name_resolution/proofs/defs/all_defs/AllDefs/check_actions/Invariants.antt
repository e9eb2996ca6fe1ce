use Rattle.std.specs.Prelude.{Contains}
use Rattle.cedar_name_resolution.proofs.ShadowLemmas.{PassedSoFar}
use Rattle.cedar_name_resolution.proofs.defs.all_defs.AllDefs.check_actions.Given as goal
use Rattle.cedar_name_resolution.specs.Words.{PlainUid, ShadowsAction, held_names, uid_of}

abbrev pub invariant-loop-uid : goal.invariant-loop-uid
invariant-loop-uid l =
    PassedSoFar (λ uid. (plain : PlainUid) → Contains (held_names l.self).actions plain → ¬ ShadowsAction plain uid)
    uid_of l.self.action_defs.keys l.uid-iterator
