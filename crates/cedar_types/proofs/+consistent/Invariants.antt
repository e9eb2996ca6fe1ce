use Rattle.std.proofs.Common.{◌≡◌, true}
use Rattle.cedar_types.proofs.+consistent.Given as goal
use Rattle.cedar_types.proofs.ConsistentSteps.{ConsistentSoFar}
use Rattle.cedar_types.specs.Words.{IsConsistent, OpenAttributes, core_fields_of, core_record, fields_of, record_of}

abbrev pub invariant-consistent::records_fit-loop-name : goal.invariant-consistent::records_fit-loop-name
invariant-consistent::records_fit-loop-name l =
    ConsistentSoFar l.own (l.openness ≡ OpenAttributes) (l.core_is_open ≡ true)
    (IsConsistent (record_of (fields_of l.attrs) l.openness) (core_record (core_fields_of l.core) l.core_is_open)) l.at l.name-iterator
