use Rattle.std.proofs.Common.{inl, inr}
use Rattle.cedar_schema.proofs.SchemaEquality.{schemas-Same}
use Rattle.cedar_schema.proofs.theorems.converted_schemas_are_built_again.Goals as goal
use Rattle.cedar_schema.specs.ValidatorSchema.{schema_of}
use Rattle.cedar_schema_laws.proofs.ComeBack.{declared_schemas_come_back}

pub returns-clause-equal : goal.returns-clause-equal
returns-clause-equal c = λ bag again extensions schema other fit type_locations built writable written rebuilt.
    let back = declared_schemas_come_back bag again extensions (schema_of schema) fit type_locations built.well_formed built.declared
    writable written in
    (schemas-Same schema other).1 (rebuilt.only (schema_of schema) back.1)

pub returns-clause-refused : goal.returns-clause-refused
returns-clause-refused c = λ bag again extensions schema fault fit type_locations built writable written rebuilt.
    let back = declared_schemas_come_back bag again extensions (schema_of schema) fit type_locations built.well_formed built.declared
    writable written in
    elim rebuilt.fault [ inl memory ↦ memory | inr at_fault ↦ absurd (back.0 (fault, at_fault)) ]
