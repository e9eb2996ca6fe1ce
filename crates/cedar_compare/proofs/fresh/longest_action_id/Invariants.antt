use Rattle.std.proofs.Common.{map}
use Rattle.cedar_compare.proofs.FreshLemmas.{IsNoLonger}
use Rattle.cedar_compare.proofs.LeftLemmas.{SureSoFar}
use Rattle.cedar_compare.proofs.fresh.longest_action_id.Given as goal
use Rattle.cedar_compare.specs.Words.{schema_of, type_name, uid_of}

abbrev pub invariant-loop-uid : goal.invariant-loop-uid
invariant-loop-uid l =
    SureSoFar (IsNoLonger (type_name l.name) l.longest) (map (λ it. it.0) (schema_of l.schema).actions) (map uid_of l.uid-iterator)
