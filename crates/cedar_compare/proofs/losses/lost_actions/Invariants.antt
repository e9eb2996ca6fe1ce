use Rattle.std.proofs.Common.{map}
use Rattle.cedar_compare.proofs.ReportedLemmas.{AnswersSoFar}
use Rattle.cedar_compare.proofs.losses.lost_actions.Given as goal
use Rattle.cedar_compare.specs.Words.{Included, action_subjects, entities_of, new_of, old_of, plain_difference}

abbrev pub invariant-loop-entity : goal.invariant-loop-entity
invariant-loop-entity l = record {
  reported : AnswersSoFar l.versions.extensions.now (old_of l.versions) (new_of l.versions) (action_subjects (entities_of l.entities))
      (action_subjects l.entity-iterator) (map plain_difference l.lost.items);
  among : Included l.entity-iterator (entities_of l.entities);
}
