-- What a builder owes follows from its refusals, and from the schema's being the declared one of a
-- bag that isn't ill-formed.
use Rattle.std.proofs.Common.{◌≡◌, ◌⊎◌, Result, Ok, Err, IfOk, IfErr, OnOk}
use Rattle.cedar_schema_laws.proofs.EnvironmentLaws.{environment_declared, declared_environment}
use Rattle.cedar_schema_laws.proofs.SchemaLaws.{one_schema, types_admit}
use Rattle.cedar_schema_laws.specs.Words.{Bag, Extensions, Fault, IsBuiltFrom, IsDeclaredSchema, IsFault, IsIllFormed, PlainSchema, TypeNamesFit, extension_types, out_of_memory}

-- what the builder owes
pub built_from : (bag : Bag) (extensions : Extensions) → TypeNamesFit (extension_types extensions)
    → (answer : Result PlainSchema Fault)
    → IfErr answer (λ fault. (fault ≡ out_of_memory) ⊎ IsFault bag extensions fault) → OnOk answer (¬ IsIllFormed bag extensions)
    → IfOk answer (IsDeclaredSchema bag extensions) → IsBuiltFrom bag extensions answer
built_from bag extensions fit (Ok schema) fault well declared =
    record {
      fault = tt;
      well_formed = well;
      declared = declared;
      only = λ other is. one_schema bag extensions fit well other schema is declared;
      admits = types_admit bag extensions fit well schema declared;
      environments = λ it. (
        environment_declared bag extensions fit well schema declared it,
        declared_environment bag extensions fit well schema declared it,
      );
    }
built_from bag extensions fit (Err error) fault well declared =
    record { fault = fault; well_formed = tt; declared = tt; only = tt; admits = tt; environments = tt }
