use Rattle.cedar_schema.proofs.Comparisons.{located_types-Decides}
use Rattle.cedar_schema.proofs.theorems.located_types_compare_by_type_and_location.Goals as goal

pub returns : goal.returns
returns c = located_types-Decides
