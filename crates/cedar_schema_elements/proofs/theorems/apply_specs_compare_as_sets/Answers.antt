use Rattle.cedar_schema_elements.proofs.ActionEquality.{apply_specs-Decides}
use Rattle.cedar_schema_elements.proofs.theorems.apply_specs_compare_as_sets.Goals as goal

pub returns : goal.returns
returns c = apply_specs-Decides
