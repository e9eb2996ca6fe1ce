use Rattle.cedar_schema_laws.proofs.SchemaLaws.{one_of_well_formed, admits_the_same}
use Rattle.cedar_schema_laws.proofs.theorems.types_have_the_admitted_values.Goals as goal

pub returns : goal.returns
returns c bag extensions expr ty fit well written =
    admits_the_same bag extensions (one_of_well_formed bag extensions fit well) expr ty written
