-- What written types and their attributes stand for.
use Rattle.std.proofs.Common.{◌≡◌, Bool, ap, ◌∙◌, map, Option, string_bytes}
use Rattle.std.proofs.lemmas.Simd.{map-map}
use Rattle.cedar_schema_ast.specs.Words.{Expr, PlainName, RawName, RecordType, Reference, ReferenceType, «Type», TypeOfAttribute, TypeVariant, attribute_step, flag_and_expr, fold-roll-RecordType, fold_out-RecordType, fold_out-TypeOfAttribute, members_from, out-RecordType, out-TypeOfAttribute, plain_members, raw_attribute, raw_expr, raw_record, raw_reference, record_expr, record_step, record_type_expr, roll-RecordType, type_expr, type_step, variant_step}
use Rattle.cedar_schema_ast.specs.declared.json_schema.type_of.Type.TheOpen as layer

module _ (N : Type 0) (refer : ReferenceType → N → Reference) where
  -- a record type stands for what its entries do
  pub record_type_expr-entries : (it : RecordType N)
      → record_type_expr N refer it
      ≡ record_expr (members_from (map (λ entry. (string_bytes entry.0, flag_and_expr N refer entry.1)) (out-RecordType N it).attributes.entries))
      (out-RecordType N it).additional_attributes
  record_type_expr-entries it =
      fold_out-RecordType N Expr Expr Expr (Bool × Expr) (type_step N refer) (variant_step N refer) (record_step N refer)
      (attribute_step N refer) it
      ∙ ap (λ members. record_expr (members_from members) (out-RecordType N it).additional_attributes) (map-map _ _ _)

  -- an attribute stands for whether it is required, and for its type
  pub flag_and_expr-parts : (it : TypeOfAttribute N)
      → flag_and_expr N refer it ≡ ((out-TypeOfAttribute N it).required, type_expr N refer (out-TypeOfAttribute N it).ty)
  flag_and_expr-parts it =
      fold_out-TypeOfAttribute N Expr Expr Expr (Bool × Expr) (type_step N refer) (variant_step N refer) (record_step N refer)
      (attribute_step N refer) it

  -- a record type that is made of entries stands for what they do
  pub record_type_expr-made : (it : layer.RecordType-F N («Type» N) (TypeVariant N) (RecordType N) (TypeOfAttribute N))
      → record_type_expr N refer (roll-RecordType N it)
      ≡ record_expr (members_from (map (λ entry. (string_bytes entry.0, flag_and_expr N refer entry.1)) it.attributes.entries))
      it.additional_attributes
  record_type_expr-made it =
      fold-roll-RecordType N Expr Expr Expr (Bool × Expr) (type_step N refer) (variant_step N refer) (record_step N refer)
      (attribute_step N refer) it
      ∙ ap (λ members. record_expr (members_from members) it.additional_attributes) (map-map _ _ _)

-- a record type that is written in a namespace stands for what its entries do
pub raw_record-entries : (namespace : Option PlainName) (it : RecordType RawName)
    → raw_record namespace it
    ≡ record_expr (members_from (plain_members namespace (out-RecordType RawName it).attributes.entries))
    (out-RecordType RawName it).additional_attributes
raw_record-entries namespace = record_type_expr-entries RawName (raw_reference namespace)

-- an attribute that is written in a namespace stands for whether it is required, and for its type
pub raw_attribute-parts : (namespace : Option PlainName) (it : TypeOfAttribute RawName)
    → raw_attribute namespace it ≡ ((out-TypeOfAttribute RawName it).required, raw_expr namespace (out-TypeOfAttribute RawName it).ty)
raw_attribute-parts namespace = flag_and_expr-parts RawName (raw_reference namespace)
