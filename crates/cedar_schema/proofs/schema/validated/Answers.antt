use Rattle.cedar_schema.proofs.schema.validated.Goals as goal

-- the only owner: what validation says of the tables, it says of the schema
pub returns-in-Ok-clause-fault : goal.returns-in-Ok-clause-fault
returns-in-Ok-clause-fault c =
    rw (c.into_tables-entity_types.ensures, c.in-Ok.ensures.alone) at
    c.validate.ensures.fault

pub returns-in-Ok-clause-valid : goal.returns-in-Ok-clause-valid
returns-in-Ok-clause-valid c =
    rw (c.into_tables-entity_types.ensures, c.in-Ok.ensures.alone) at
    c.validate.ensures.valid

pub returns-in-Ok-clause-types_located : goal.returns-in-Ok-clause-types_located
returns-in-Ok-clause-types_located c =
    rw (c.into_tables-entity_types.ensures, c.in-Ok.ensures.alone) at
    c.validate.ensures.types_located

pub returns-in-Ok-clause-actions_located : goal.returns-in-Ok-clause-actions_located
returns-in-Ok-clause-actions_located c =
    rw (c.into_tables-entity_types.ensures, c.in-Ok.ensures.alone) at
    c.validate.ensures.actions_located

pub returns-in-Ok-clause-closed : goal.returns-in-Ok-clause-closed
returns-in-Ok-clause-closed c =
    rw (c.into_tables-entity_types.ensures, c.in-Ok.ensures.alone) at
    c.validate.ensures.closed

-- one of several owners: what validation says of the copies, it says of the schema
pub returns-in-Err-clause-fault : goal.returns-in-Err-clause-fault
returns-in-Err-clause-fault c =
    rw (c.value-content.ensures, c.in-Err.ensures.among_others) at
    c.validate_copies.ensures.fault

pub returns-in-Err-clause-valid : goal.returns-in-Err-clause-valid
returns-in-Err-clause-valid c =
    rw (c.value-content.ensures, c.in-Err.ensures.among_others) at
    c.validate_copies.ensures.valid

pub returns-in-Err-clause-types_located : goal.returns-in-Err-clause-types_located
returns-in-Err-clause-types_located c =
    rw (c.value-content.ensures, c.in-Err.ensures.among_others) at
    c.validate_copies.ensures.types_located

pub returns-in-Err-clause-actions_located : goal.returns-in-Err-clause-actions_located
returns-in-Err-clause-actions_located c =
    rw (c.value-content.ensures, c.in-Err.ensures.among_others) at
    c.validate_copies.ensures.actions_located

pub returns-in-Err-clause-closed : goal.returns-in-Err-clause-closed
returns-in-Err-clause-closed c =
    rw (c.value-content.ensures, c.in-Err.ensures.among_others) at
    c.validate_copies.ensures.closed
