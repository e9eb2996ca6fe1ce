use Rattle.cedar_schema_laws.proofs.SchemaLaws.{one_of_well_formed}
use Rattle.cedar_schema_laws.proofs.theorems.expressions_are_elaborated_as_one_type.Goals as goal
use Rattle.cedar_schema_semantics.proofs.ResolutionLemmas.{elaborated_once}
use Rattle.cedar_schema_semantics.specs.Bag.{definitions}

pub returns : goal.returns
returns c bag extensions expr ty other fit well written again =
    elaborated_once (definitions bag extensions) (one_of_well_formed bag extensions fit well) written again
