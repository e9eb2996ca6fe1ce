use Rattle.std.proofs.Common.{map, take}
use Rattle.std.specs.List.{flat_map}
use Rattle.cedar_compare.proofs.requests.lost_with_principals.Given as goal
use Rattle.cedar_compare.specs.Words.{AreAnswers, new_of, old_of, plain_difference, subjects_with, type_name, uid_of}

abbrev pub invariant-loop-principal : goal.invariant-loop-principal
invariant-loop-principal l =
    AreAnswers l.versions.extensions.now (old_of l.versions) (new_of l.versions)
    (flat_map (λ principal. subjects_with (uid_of l.requests.uid.now) principal (map (λ resource. type_name resource.now) l.resources))
    (map (λ principal. type_name principal.now) (take l.principal-index l.principals)))
    (map plain_difference l.lost.items)
