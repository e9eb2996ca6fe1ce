use Rattle.cedar_schema_elements.proofs.action_id.ValidatorActionId.with_kind.Goals as goal

pub returns-clause-descendants : goal.returns-clause-descendants
returns-clause-descendants g c = rw c.in_ok-new.ensures.ok c.in_ok-uid_set.ensures.uids
