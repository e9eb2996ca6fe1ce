use Rattle.cedar_schema_elements.proofs.EntityTypeEquality.{entity_types-Same}
use Rattle.cedar_schema_elements.proofs.theorems.entity_types_compare_by_what_they_are.Goals as goal

pub returns : goal.returns
returns c = entity_types-Same
