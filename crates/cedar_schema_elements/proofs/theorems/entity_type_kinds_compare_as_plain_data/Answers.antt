use Rattle.cedar_schema_elements.proofs.EntityTypeEquality.{kinds-Decides}
use Rattle.cedar_schema_elements.proofs.theorems.entity_type_kinds_compare_as_plain_data.Goals as goal

pub returns : goal.returns
returns c = kinds-Decides
