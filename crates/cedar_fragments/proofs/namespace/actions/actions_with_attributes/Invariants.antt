use Rattle.cedar_fragments.proofs.AttributeLemmas.{IdsSoFar}
use Rattle.cedar_fragments.proofs.namespace.actions.actions_with_attributes.Given as goal

abbrev pub invariant-loop-id : goal.invariant-loop-id
invariant-loop-id l = IdsSoFar l.written.entries l.ids.items l.id-iterator
