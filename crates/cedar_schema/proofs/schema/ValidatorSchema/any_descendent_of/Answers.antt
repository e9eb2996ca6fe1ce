use Rattle.cedar_schema.proofs.schema.ValidatorSchema.any_descendent_of.Goals as goal

pub returns : goal.returns
returns c = rw c.content-content.ensures at c.any_descendent_of.ensures
