use Rattle.cedar_schema_laws.proofs.TypesConvertedBack.{converted_types_elaborate}
use Rattle.cedar_schema_laws.proofs.theorems.converted_types_elaborate.Goals as goal

pub returns : goal.returns
returns c = converted_types_elaborate
