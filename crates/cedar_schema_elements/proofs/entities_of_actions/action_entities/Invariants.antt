use Rattle.cedar_schema_elements.proofs.EntityLemmas.{EntitiesSoFar, AncestorsLeft}
use Rattle.cedar_schema_elements.proofs.entities_of_actions.action_entities.Given as goal

abbrev pub invariant-loop-uid : goal.invariant-loop-uid
invariant-loop-uid l =
    EntitiesSoFar l.actions.entries l.entities l.uid-iterator × AncestorsLeft l.actions.entries l.ancestors l.uid-iterator
