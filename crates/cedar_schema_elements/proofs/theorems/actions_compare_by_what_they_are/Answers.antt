use Rattle.cedar_schema_elements.proofs.ActionEquality.{actions-Same}
use Rattle.cedar_schema_elements.proofs.theorems.actions_compare_by_what_they_are.Goals as goal

pub returns : goal.returns
returns c = actions-Same
