use Rattle.cedar_schema_laws.proofs.ActionEntityLaws.{entities_declared}
use Rattle.cedar_schema_laws.proofs.theorems.action_entities_are_declared.Goals as goal

pub returns : goal.returns
returns c = entities_declared
