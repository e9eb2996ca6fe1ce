use Rattle.cedar_schema_laws.proofs.SchemasConvertedBack.{converted_schemas_are_declared}
use Rattle.cedar_schema_laws.proofs.theorems.converted_schemas_are_declared.Goals as goal

pub returns : goal.returns
returns c = converted_schemas_are_declared
