use Rattle.cedar_schema_laws.proofs.CleanSchemas.{declared_clean}
use Rattle.cedar_schema_laws.proofs.theorems.declared_types_are_clean.Goals as goal

pub returns : goal.returns
returns c = declared_clean
