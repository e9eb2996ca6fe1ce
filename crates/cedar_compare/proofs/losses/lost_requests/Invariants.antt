use Rattle.std.proofs.Common.{map}
use Rattle.cedar_compare.proofs.AllLemmas.{RequestsSoFar}
use Rattle.cedar_compare.proofs.losses.lost_requests.Given as goal
use Rattle.cedar_compare.specs.Words.{new_of, old_of, plain_difference, uid_of}

abbrev pub invariant-loop-uid : goal.invariant-loop-uid
invariant-loop-uid l =
    RequestsSoFar l.versions.extensions.now (old_of l.versions) (new_of l.versions) (map uid_of l.uid-iterator) (map plain_difference l.lost.items)
