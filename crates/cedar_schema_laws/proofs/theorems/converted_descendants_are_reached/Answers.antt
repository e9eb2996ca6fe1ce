use Rattle.cedar_schema_laws.proofs.SchemasConvertedBack.{converted_descendants_are_reached}
use Rattle.cedar_schema_laws.proofs.theorems.converted_descendants_are_reached.Goals as goal

pub returns : goal.returns
returns c = converted_descendants_are_reached
