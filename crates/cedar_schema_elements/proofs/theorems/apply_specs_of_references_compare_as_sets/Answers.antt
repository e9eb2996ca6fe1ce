use Rattle.cedar_schema_elements.proofs.ActionEquality.{reference_specs-Decides}
use Rattle.cedar_schema_elements.proofs.theorems.apply_specs_of_references_compare_as_sets.Goals as goal

pub returns : goal.returns
returns c = reference_specs-Decides
