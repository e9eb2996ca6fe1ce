use Rattle.cedar_schema_laws.proofs.SchemaExistence.{declared_schema}
use Rattle.cedar_schema_laws.proofs.theorems.bags_declare_a_schema.Goals as goal

pub returns : goal.returns
returns c = declared_schema
