use Rattle.cedar_schema.proofs.ClosedTwice.{closed_same}
use Rattle.cedar_schema.proofs.SchemaEquality.{schemas-Same}
use Rattle.cedar_schema.proofs.theorems.validation_again_changes_nothing.Goals as goal
use Rattle.cedar_schema.specs.ValidatorSchema.{schema_of}
use Rattle.cedar_validation.proofs.ClosedAgain.{closes_again, fault_back}

pub returns-clause-valid : goal.returns-clause-valid
returns-clause-valid c = λ extensions schema closed closes valid fault at.
    valid fault (fault_back (schema_of schema) (schema_of closed) closes extensions fault at)

pub returns-clause-equal : goal.returns-clause-equal
returns-clause-equal c = λ schema closed again closes onwards.
    (schemas-Same closed again).1
    (closed_same (schema_of schema) (schema_of closed) (schema_of again) closes
    (closes_again (schema_of schema) (schema_of closed) closes (schema_of again) onwards))
