use Rattle.cedar_schema_laws.proofs.ResolutionLaws.{resolution}
use Rattle.cedar_schema_laws.proofs.theorems.resolution_changes_nothing.Goals as goal

pub returns : goal.returns
returns c = resolution
