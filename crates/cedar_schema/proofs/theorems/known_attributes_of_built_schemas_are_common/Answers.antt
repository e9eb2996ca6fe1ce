use Rattle.cedar_queries.proofs.KnownLemmas.{known_is_common, larger_knows_less}
use Rattle.cedar_schema.proofs.KnownOfBuilt.{declared_clean_types}
use Rattle.cedar_schema.proofs.theorems.known_attributes_of_built_schemas_are_common.Goals as goal
use Rattle.cedar_schema.specs.ValidatorSchema.{schema_of}

pub returns-clause-exactly : goal.returns-clause-exactly
returns-clause-exactly c = λ bag extensions schema members known built joined.
    known_is_common (schema_of schema).entity_types members known
    (declared_clean_types bag extensions schema built.declared members) joined

pub returns-clause-fewer : goal.returns-clause-fewer
returns-clause-fewer c = λ bag extensions schema part members less more built within all some.
    larger_knows_less (schema_of schema).entity_types part members less more within
    (declared_clean_types bag extensions schema built.declared members) all some
