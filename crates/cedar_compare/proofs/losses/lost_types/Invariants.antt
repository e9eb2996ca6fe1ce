use Rattle.std.proofs.Common.{map}
use Rattle.cedar_compare.proofs.ReportedLemmas.{AnswersSoFar}
use Rattle.cedar_compare.proofs.losses.lost_types.Given as goal
use Rattle.cedar_compare.specs.Words.{new_of, old_of, plain_difference, type_name, type_subject, type_subjects}

abbrev pub invariant-loop-name : goal.invariant-loop-name
invariant-loop-name l =
    AnswersSoFar l.versions.extensions.now (old_of l.versions) (new_of l.versions) (type_subjects (old_of l.versions))
    (map (λ name. type_subject (type_name name)) l.name-iterator) (map plain_difference l.lost.items)
