use Rattle.std.proofs.Common.{Contains, map}
use Rattle.cedar_compare.proofs.lost_uids.add_actions.Given as goal
use Rattle.cedar_compare.specs.Words.{AreLostSoFar, IsActionType, schema_of, uid_of}

abbrev pub invariant-loop-uid : goal.invariant-loop-uid
invariant-loop-uid l = AreLostSoFar (schema_of l.old) (schema_of l.new) (λ uid. IsActionType uid.ty) l.initial.lost
    → AreLostSoFar (schema_of l.old) (schema_of l.new) (λ uid. Contains (map uid_of l.uid-iterator) uid) l.lost
