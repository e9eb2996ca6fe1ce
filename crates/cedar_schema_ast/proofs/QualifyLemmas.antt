-- Record types whose attributes are qualified one after another.
use Rattle.std.proofs.Common.{◌≡◌, Bool, List, map, ap, sym, ◌∙◌, Option, string_bytes}
use Rattle.std.proofs.lemmas.Simd.{map-map}
use Rattle.std.specs.declared.alloc.Global.{Global}
use Rattle.std.specs.declared.string.String.{String}
use Rattle.cedar_schema_ast.proofs.Converted.{seen_by}
use Rattle.cedar_schema_ast.proofs.ExprLemmas.{record_type_expr-made, flag_and_expr-parts, raw_record-entries, raw_attribute-parts}
use Rattle.cedar_schema_ast.specs.Words.{ConditionalName, Expr, PlainName, RawName, RecordType, Text, «Type», TypeOfAttribute, TypeVariant, conditional_attribute, conditional_expr, conditional_record, members_from, out-RecordType, out-TypeOfAttribute, own_reference, positional_attribute, positional_expr, positional_record, positional_reference, raw_attribute, raw_expr, raw_record, record_expr, roll-RecordType}
use Rattle.cedar_schema_ast.specs.declared.json_schema.type_of.Type.TheOpen as layer

-- what an attribute stands for, by what its references say themselves and by what their places
-- permit
abbrev pub both_ways : TypeOfAttribute ConditionalName → (Bool × Expr) × (Bool × Expr)
both_ways attribute = (conditional_attribute attribute, positional_attribute attribute)

-- what a written attribute stands for, to be compared with both
abbrev pub written_both_ways : Option PlainName → TypeOfAttribute RawName → (Bool × Expr) × (Bool × Expr)
written_both_ways namespace attribute = (raw_attribute namespace attribute, raw_attribute namespace attribute)

-- an attribute of the same flag stands for what the written one does if its type does
pub same_both_ways : (namespace : Option PlainName) (written : TypeOfAttribute RawName) (it : TypeOfAttribute ConditionalName)
    → (out-TypeOfAttribute ConditionalName it).required ≡ (out-TypeOfAttribute RawName written).required
    → conditional_expr (out-TypeOfAttribute ConditionalName it).ty ≡ raw_expr namespace (out-TypeOfAttribute RawName written).ty
    → positional_expr (out-TypeOfAttribute ConditionalName it).ty ≡ raw_expr namespace (out-TypeOfAttribute RawName written).ty
    → both_ways it ≡ written_both_ways namespace written
same_both_ways namespace written it required own placed =
    let owned : conditional_attribute it ≡ raw_attribute namespace written =
    flag_and_expr-parts ConditionalName own_reference it
    ∙ ((λ i. (required i, own i)) ∙ sym (raw_attribute-parts namespace written)) in
    let places : positional_attribute it ≡ raw_attribute namespace written =
    flag_and_expr-parts ConditionalName positional_reference it
    ∙ ((λ i. (required i, placed i)) ∙ sym (raw_attribute-parts namespace written)) in
    (λ i. (owned i, places i))

-- a record type that is made of attributes
abbrev pub Made : Type 0
Made = layer.RecordType-F ConditionalName («Type» ConditionalName) (TypeVariant ConditionalName)
    (RecordType ConditionalName) (TypeOfAttribute ConditionalName)

-- the entries of record types show the same
abbrev Same : Option PlainName → Made → RecordType RawName → Type 0
Same namespace it written =
    seen_by both_ways it.attributes.entries ≡ seen_by (written_both_ways namespace) (out-RecordType RawName written).attributes.entries

-- a record type whose entries show the same stands for the same
pub own_record : (namespace : Option PlainName) (written : RecordType RawName) (it : Made)
    → it.additional_attributes ≡ (out-RecordType RawName written).additional_attributes
    → Same namespace it written → conditional_record (roll-RecordType ConditionalName it) ≡ raw_record namespace written
own_record namespace written it additional same =
    let plain : List (String Global × ((Bool × Expr) × (Bool × Expr))) → List (Text × (Bool × Expr)) =
    map (λ entry. (string_bytes entry.0, entry.1.0)) in
    let members : map (λ entry. (string_bytes entry.0, conditional_attribute entry.1)) it.attributes.entries
    ≡ map (λ entry. (string_bytes entry.0, raw_attribute namespace entry.1)) (out-RecordType RawName written).attributes.entries =
    sym (map-map _ _ _) ∙ (ap plain same ∙ map-map _ _ _) in
    record_type_expr-made ConditionalName own_reference it
    ∙ ((λ i. record_expr (members_from (members i)) (additional i)) ∙ sym (raw_record-entries namespace written))

-- also where each reference is of the kind that its position permits
pub positional_in_record : (namespace : Option PlainName) (written : RecordType RawName) (it : Made)
    → it.additional_attributes ≡ (out-RecordType RawName written).additional_attributes
    → Same namespace it written → positional_record (roll-RecordType ConditionalName it) ≡ raw_record namespace written
positional_in_record namespace written it additional same =
    let plain : List (String Global × ((Bool × Expr) × (Bool × Expr))) → List (Text × (Bool × Expr)) =
    map (λ entry. (string_bytes entry.0, entry.1.1)) in
    let members : map (λ entry. (string_bytes entry.0, positional_attribute entry.1)) it.attributes.entries
    ≡ map (λ entry. (string_bytes entry.0, raw_attribute namespace entry.1)) (out-RecordType RawName written).attributes.entries =
    sym (map-map _ _ _) ∙ (ap plain same ∙ map-map _ _ _) in
    record_type_expr-made ConditionalName positional_reference it
    ∙ ((λ i. record_expr (members_from (members i)) (additional i)) ∙ sym (raw_record-entries namespace written))
