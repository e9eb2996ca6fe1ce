use Rattle.std.proofs.Common.{drop, map}
use Rattle.cedar_compare.proofs.ReportedLemmas.{AnswersSoFar}
use Rattle.cedar_compare.proofs.requests.lost_with_principal.Given as goal
use Rattle.cedar_compare.specs.Words.{new_of, old_of, plain_difference, subjects_with, type_name, uid_of}

abbrev pub invariant-loop-resource : goal.invariant-loop-resource
invariant-loop-resource l =
    AnswersSoFar l.versions.extensions.now (old_of l.versions) (new_of l.versions)
    (subjects_with (uid_of l.requests.uid.now) (type_name l.principal) (map (λ resource. type_name resource.now) l.resources))
    (subjects_with (uid_of l.requests.uid.now) (type_name l.principal)
    (map (λ resource. type_name resource.now) (drop l.resource-index l.resources)))
    (map plain_difference l.lost.items)
