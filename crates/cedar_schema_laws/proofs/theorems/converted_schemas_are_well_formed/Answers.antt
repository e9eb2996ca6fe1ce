use Rattle.cedar_schema_laws.proofs.FaultsConvertedBack.{converted_schemas_are_well_formed}
use Rattle.cedar_schema_laws.proofs.theorems.converted_schemas_are_well_formed.Goals as goal

pub returns : goal.returns
returns c = converted_schemas_are_well_formed
