-- Values that have to be of a type and to name what exists.
use Rattle.std.specs.Prelude.{◌⊎◌, Option, Some, None}
use Rattle.cedar_ast.specs.Words.{Tree}
use Rattle.cedar_ast.specs.declared.extension.Extensions.{Extensions}
use Rattle.cedar_conformance.specs.Mismatch.{IsTypeFault}
use Rattle.cedar_conformance.specs.Naming.{IsNamingFault}
use Rattle.cedar_conformance.specs.Plain.{PlainFault}
use Rattle.cedar_entities.specs.Words.{NamesWhatExists}
use Rattle.cedar_schema_semantics.specs.PlainSchema.{PlainSchema}
use Rattle.cedar_type_rules.specs.Words.{Has, Ty}

-- a fault is true of a value that has to be of a type and to name what exists
abbrev pub IsValueFault : Extensions → PlainSchema → Tree → Ty → PlainFault → Type 0
IsValueFault extensions schema value ty fault =
    IsTypeFault extensions value ty fault ⊎ IsNamingFault schema value fault

-- what is found of such a value: that it is as it has to be, or a fault that is true of it
abbrev pub IsValueAnswer : Extensions → PlainSchema → Tree → Ty → Option PlainFault → Type 0
IsValueAnswer extensions schema value ty None =
    Has extensions value ty × NamesWhatExists schema value
IsValueAnswer extensions schema value ty (Some fault) =
    IsValueFault extensions schema value ty fault
