-- What the variants of a written type stand for.
use Rattle.std.proofs.Common.{◌≡◌, Option, rules}
use Rattle.std.specs.declared.alloc.Global.{Global}
use Rattle.std.specs.declared.boxed.Box.{Box}
use Rattle.cedar_schema_ast.specs.Words.{Boolean, CommonTypeRef, EntityOrCommon, Extension, Loc, Long, Plain, PlainName, RawName, Record, RecordType, Reference, ReferenceType, Set, String, «Type», TypeVariant, UnreservedId, extension_expr, long_expr, named, raw_expr, raw_name, raw_record, raw_reference, raw_variant, record_type_expr, reference_to, set_expr, text_expr, the_lemmas, truth_expr, type_expr, unreserved_id_text, variant_expr}
use Rattle.cedar_schema_ast.specs.declared.json_schema.reference_type.ReferenceType.TheVariants.{Common as common, Entity as entity, CommonOrEntity as common_or_entity}
use Rattle.cedar_schema_ast.specs.declared.json_schema.type_of.TypeVariant.{Entity}

module _ (N : Type 0) (refer : ReferenceType → N → Reference) where
  -- what the type of texts stands for
  pub variant-String : variant_expr N refer String ≡ text_expr
  variant-String = search (rules, the_lemmas)

  -- what the type of whole numbers stands for
  pub variant-Long : variant_expr N refer Long ≡ long_expr
  variant-Long = search (rules, the_lemmas)

  -- what the type of truth values stands for
  pub variant-Boolean : variant_expr N refer Boolean ≡ truth_expr
  variant-Boolean = search (rules, the_lemmas)

  -- what a set type stands for
  pub variant-Set : (element : Box («Type» N) Global) → variant_expr N refer (Set element) ≡ set_expr (type_expr N refer element.value)
  variant-Set element = search (rules, the_lemmas)

  -- what a record type stands for
  pub variant-Record : (it : RecordType N) → variant_expr N refer (Record it) ≡ record_type_expr N refer it
  variant-Record it = search (rules, the_lemmas)

  -- what an entity type stands for
  pub variant-Entity : (name : N) → variant_expr N refer (Entity name) ≡ named (refer entity name)
  variant-Entity name = search (rules, the_lemmas)

  -- what a name of either stands for
  pub variant-EntityOrCommon : (name : N) → variant_expr N refer (EntityOrCommon name) ≡ named (refer common_or_entity name)
  variant-EntityOrCommon name = search (rules, the_lemmas)

  -- what an extension type stands for
  pub variant-Extension : (name : UnreservedId) → variant_expr N refer (Extension name) ≡ extension_expr (unreserved_id_text name)
  variant-Extension name = search (rules, the_lemmas)

  -- what a type variant stands for
  pub type-Plain : (ty : TypeVariant N) (loc : Option Loc) → type_expr N refer (Plain ty loc) ≡ variant_expr N refer ty
  type-Plain ty loc = search (rules, the_lemmas)

  -- what a reference to a common type stands for
  pub type-CommonTypeRef : (name : N) (loc : Option Loc) → type_expr N refer (CommonTypeRef name loc) ≡ named (refer common name)
  type-CommonTypeRef name loc = search (rules, the_lemmas)

-- what the written type of texts stands for
pub raw_variant-String : (namespace : Option PlainName) → raw_variant namespace String ≡ text_expr
raw_variant-String namespace = variant-String RawName (raw_reference namespace)

-- what the written type of whole numbers stands for
pub raw_variant-Long : (namespace : Option PlainName) → raw_variant namespace Long ≡ long_expr
raw_variant-Long namespace = variant-Long RawName (raw_reference namespace)

-- what the written type of truth values stands for
pub raw_variant-Boolean : (namespace : Option PlainName) → raw_variant namespace Boolean ≡ truth_expr
raw_variant-Boolean namespace = variant-Boolean RawName (raw_reference namespace)

-- what a written set type stands for
pub raw_variant-Set : (namespace : Option PlainName) (element : Box («Type» RawName) Global)
    → raw_variant namespace (Set element) ≡ set_expr (raw_expr namespace element.value)
raw_variant-Set namespace = variant-Set RawName (raw_reference namespace)

-- what a written record type stands for
pub raw_variant-Record : (namespace : Option PlainName) (it : RecordType RawName)
    → raw_variant namespace (Record it) ≡ raw_record namespace it
raw_variant-Record namespace = variant-Record RawName (raw_reference namespace)

-- what a written entity type stands for
pub raw_variant-Entity : (namespace : Option PlainName) (name : RawName)
    → raw_variant namespace (Entity name) ≡ named (reference_to namespace entity (raw_name name))
raw_variant-Entity namespace = variant-Entity RawName (raw_reference namespace)

-- what a type variant stands for
pub raw_expr-Plain : (namespace : Option PlainName) (ty : TypeVariant RawName) (loc : Option Loc)
    → raw_expr namespace (Plain ty loc) ≡ raw_variant namespace ty
raw_expr-Plain namespace = type-Plain RawName (raw_reference namespace)
