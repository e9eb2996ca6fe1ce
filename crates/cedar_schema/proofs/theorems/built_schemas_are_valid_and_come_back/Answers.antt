use Rattle.cedar_schema.proofs.ClosedTwice.{closed_same}
use Rattle.cedar_schema.proofs.SchemaEquality.{schemas-Same}
use Rattle.cedar_schema.proofs.theorems.built_schemas_are_valid_and_come_back.Goals as goal
use Rattle.cedar_schema.specs.ValidatorSchema.{schema_of}
use Rattle.cedar_schema_laws.proofs.ValidLaws.{declared_closed, declared_valid}

pub returns-clause-valid : goal.returns-clause-valid
returns-clause-valid c = λ bag extensions schema fit type_locations built.
    declared_valid bag extensions (schema_of schema) fit type_locations built.well_formed built.declared

pub returns-clause-equal : goal.returns-clause-equal
returns-clause-equal c = λ bag extensions schema closed built closes.
    (schemas-Same schema closed).1
    (closed_same (schema_of schema) (schema_of schema) (schema_of closed)
    (declared_closed bag extensions (schema_of schema) built.declared) closes)
