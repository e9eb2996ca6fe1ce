use Rattle.cedar_schema.proofs.schema.ValidatorSchema.get_actions_in_set.Goals as goal

pub returns-clause-known : goal.returns-clause-known
returns-clause-known c = rw c.content.ensures at c.actions_in_set.ensures.known
