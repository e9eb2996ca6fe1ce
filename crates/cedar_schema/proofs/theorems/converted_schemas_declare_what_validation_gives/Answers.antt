use Rattle.cedar_schema.proofs.SchemaNames.{known_names, known_order, no_reserved_name}
use Rattle.cedar_schema.proofs.theorems.converted_schemas_declare_what_validation_gives.Goals as goal
use Rattle.cedar_schema.specs.ValidatorSchema.{schema_of}
use Rattle.cedar_schema_laws.proofs.FaultsConvertedBack.{converted_schemas_are_well_formed}
use Rattle.cedar_schema_laws.proofs.SchemasConvertedBack.{converted_schemas_are_declared}

pub returns-clause-well_formed : goal.returns-clause-well_formed
returns-clause-well_formed c = λ bag extensions schema fit valid records writable written.
    converted_schemas_are_well_formed (schema_of schema) bag extensions fit (known_order schema) (no_reserved_name schema)
    records writable valid written

pub returns-clause-declared : goal.returns-clause-declared
returns-clause-declared c = λ bag extensions schema closed valid writable written closes.
    converted_schemas_are_declared (schema_of schema) (schema_of closed) bag extensions (known_order schema) (known_names schema)
    writable valid written closes
