use Rattle.cedar_schema_elements.proofs.SetLemmas.{uids_once}
use Rattle.cedar_schema_elements.proofs.action_id.ValidatorActionId.descendants.Goals as goal

pub returns-clause-once : goal.returns-clause-once
returns-clause-once c = uids_once c.args.self.now.parts.value.descendants.keys (rw c.deref.ensures at c.iter.ensures.ordered)
