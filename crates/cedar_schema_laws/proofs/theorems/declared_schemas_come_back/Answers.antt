use Rattle.cedar_schema_laws.proofs.ComeBack.{declared_schemas_come_back}
use Rattle.cedar_schema_laws.proofs.theorems.declared_schemas_come_back.Goals as goal

pub returns : goal.returns
returns c = declared_schemas_come_back
