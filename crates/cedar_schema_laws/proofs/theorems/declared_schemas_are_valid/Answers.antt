use Rattle.cedar_schema_laws.proofs.ValidLaws.{declared_closed, declared_valid}
use Rattle.cedar_schema_laws.proofs.theorems.declared_schemas_are_valid.Goals as goal

pub returns-clause-valid : goal.returns-clause-valid
returns-clause-valid c bag extensions schema fit places well declared = declared_valid bag extensions schema fit places well declared

pub returns-clause-closed : goal.returns-clause-closed
returns-clause-closed c = declared_closed
