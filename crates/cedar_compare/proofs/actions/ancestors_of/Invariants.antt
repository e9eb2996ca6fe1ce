use Rattle.std.proofs.Common.{◌⊎◌, ◌↔◌, Contains, map}
use Rattle.cedar_compare.proofs.actions.ancestors_of.Given as goal
use Rattle.cedar_compare.specs.Words.{PlainUid, entity_ancestors, uid_of}

abbrev pub invariant-loop-uid : goal.invariant-loop-uid
invariant-loop-uid l = (uid : PlainUid) → Contains (entity_ancestors l.entity) uid
    ↔ (Contains (map uid_of l.ancestors.keys) uid ⊎ Contains (map uid_of l.uid-iterator) uid)
