use Rattle.cedar_schema.proofs.SchemaEquality.{schemas-Same}
use Rattle.cedar_schema.proofs.theorems.schemas_compare_by_what_they_declare.Goals as goal

pub returns : goal.returns
returns c = schemas-Same
