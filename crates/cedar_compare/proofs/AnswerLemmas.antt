-- What is answered of a standard entity type.
use Rattle.std.proofs.Common.{Option, Some, None, Result, Ok, Err, IfOk, Contains}
use Rattle.std.specs.Option.{option_map}
use Rattle.cedar_compare.proofs.LostLemmas.{kept_standard}
use Rattle.cedar_compare.specs.Words.{Difference, Extensions, IncludedBetween, IsAnswer, IsBesideAnswer, IsKeyed, IsStandard, Memory, PlainName, PlainSchema, SchemaEntityType, kind_fields, kind_openness, kind_tags, plain_difference, record_of, type_subject}

-- where the attributes are included, what is found beside them is the answer
pub standard_answered : (extensions : Extensions) (old new : PlainSchema) (name : PlainName) (ty other : SchemaEntityType) → IsKeyed old
    → Contains old.entity_types (name, ty) → Contains new.entity_types (name, other)
    → IsStandard ty.kind → IsStandard other.kind
    → IncludedBetween extensions old (record_of (kind_fields ty.kind) (kind_openness ty.kind))
    new (record_of (kind_fields other.kind) (kind_openness other.kind))
    → (answer : Result (Option Difference) Memory)
    → IfOk answer (λ found. IsBesideAnswer extensions old new name (kind_tags ty.kind) (kind_tags other.kind) (option_map plain_difference found))
    → IfOk answer (λ found. IsAnswer extensions old new (type_subject name) (option_map plain_difference found))
standard_answered extensions old new name ty other keyed there there' standard standard' included (Ok None) beside =
    kept_standard extensions old new name ty other keyed there there' standard standard' included beside.0 beside.1
standard_answered extensions old new name ty other keyed there there' standard standard' included (Ok (Some difference)) beside = beside
standard_answered extensions old new name ty other keyed there there' standard standard' included (Err refused) beside = tt
