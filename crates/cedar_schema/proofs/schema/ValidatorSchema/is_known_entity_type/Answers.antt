use Rattle.cedar_schema.proofs.schema.ValidatorSchema.is_known_entity_type.Goals as goal

pub returns : goal.returns
returns c = rw c.content.ensures at c.is_known_entity_type.ensures
