use Rattle.cedar_schema_elements.proofs.EntityTypeEquality.{standard-Decides}
use Rattle.cedar_schema_elements.proofs.theorems.standard_entity_types_compare_as_plain_data.Goals as goal

pub returns : goal.returns
returns c = standard-Decides
