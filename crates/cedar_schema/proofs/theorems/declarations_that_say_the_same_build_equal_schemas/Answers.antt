use Rattle.std.proofs.Common.{inl, inr}
use Rattle.cedar_schema.proofs.SchemaEquality.{schemas-Same}
use Rattle.cedar_schema.proofs.theorems.declarations_that_say_the_same_build_equal_schemas.Goals as goal
use Rattle.cedar_schema.specs.ValidatorSchema.{schema_of}
use Rattle.cedar_schema_laws.proofs.SameBagLaws.{same_bags}

pub returns-clause-equal : goal.returns-clause-equal
returns-clause-equal c = λ bag other extensions a b same first second.
    (schemas-Same a b).1
    (second.only (schema_of a) (((same_bags bag other extensions same).1 (schema_of a)).0 first.declared))

pub returns-clause-refused : goal.returns-clause-refused
returns-clause-refused c = λ bag other extensions schema fault same first second.
    elim second.fault [ inl memory ↦ memory | inr at_fault ↦ absurd (first.well_formed ((same_bags bag other extensions same).0.1 (fault, at_fault))) ]
