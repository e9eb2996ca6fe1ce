use Rattle.std.proofs.Common.{map, take}
use Rattle.cedar_fragments.proofs.namespace.listed_names.add_actions.Given as goal
use Rattle.cedar_fragments.specs.Words.{HasAlso, uid_of}

abbrev pub invariant-loop-def : goal.invariant-loop-def
invariant-loop-def g l =
    HasAlso (map uid_of l.uids.items) (map uid_of l.initial.uids.items) (map (λ def. uid_of def.uid) (take l.def-index l.def-items))
