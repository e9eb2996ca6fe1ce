use Rattle.cedar_schema_laws.proofs.SchemaLaws.{types_admit}
use Rattle.cedar_schema_laws.proofs.theorems.declared_types_have_the_declared_values.Goals as goal

pub returns : goal.returns
returns c = types_admit
