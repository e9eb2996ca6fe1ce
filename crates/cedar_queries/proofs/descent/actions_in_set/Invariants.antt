use Rattle.std.proofs.Common.{◌≡◌, ◌++◌, ◌∷◌, [], All, Contains, map, take}
use Rattle.std.specs.List.{flat_map}
use Rattle.cedar_queries.proofs.descent.actions_in_set.Given as goal
use Rattle.cedar_queries.specs.Words.{action_descendants, plain_action_entry, uid_of}

abbrev pub invariant-loop-uid : goal.invariant-loop-uid
invariant-loop-uid l = record {
  known : All (λ uid. Contains (map (λ it. it.0) (map plain_action_entry l.actions.entries)) (uid_of uid)) (take l.uid-index l.uids);
  added : map (λ it. uid_of it.now) l.all.items
      ≡ flat_map (λ uid. action_descendants (uid_of uid) (map plain_action_entry l.actions.entries) ++ uid_of uid ∷ []) (take l.uid-index l.uids);
}
