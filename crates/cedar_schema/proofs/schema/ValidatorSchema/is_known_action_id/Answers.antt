use Rattle.cedar_schema.proofs.schema.ValidatorSchema.is_known_action_id.Goals as goal

pub returns : goal.returns
returns c = rw c.content.ensures at c.is_known_action_id.ensures
