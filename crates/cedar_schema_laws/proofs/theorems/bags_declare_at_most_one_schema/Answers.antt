use Rattle.cedar_schema_laws.proofs.SchemaLaws.{one_schema}
use Rattle.cedar_schema_laws.proofs.theorems.bags_declare_at_most_one_schema.Goals as goal

pub returns : goal.returns
returns c = one_schema
