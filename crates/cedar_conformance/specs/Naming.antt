-- Uids in values that don't exist.
use Rattle.std.specs.Prelude.{◌≡◌, Option, Some, None}
use Rattle.cedar_ast.specs.Words.{PlainUid, Tree, uid_value}
use Rattle.cedar_conformance.specs.Mismatch.{LeadsTo}
use Rattle.cedar_conformance.specs.Plain.{PlainFault, no_such_choice}
use Rattle.cedar_entities.specs.Words.{Exists, NamesWhatExists}
use Rattle.cedar_schema_semantics.specs.PlainSchema.{PlainSchema}

-- a fault is true of a value that has to name what exists: its steps lead to a uid that doesn't
pub record IsNamingFault (schema : PlainSchema) (value : Tree) (fault : PlainFault) : Type 0 where
  pub uid : PlainUid
  pub kind : fault.kind ≡ no_such_choice uid
  pub leads : LeadsTo fault.steps value (uid_value uid)
  pub lost : ¬ Exists schema uid

-- what is found of a value: that it names what exists, or a fault that is true of it
abbrev pub IsNamingAnswer : PlainSchema → Tree → Option PlainFault → Type 0
IsNamingAnswer schema value None = NamesWhatExists schema value
IsNamingAnswer schema value (Some fault) = IsNamingFault schema value fault
