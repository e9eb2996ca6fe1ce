-- References in a type that is written in a namespace are as they were written there.
use Rattle.std.proofs.Common.{◌≡◌, Bool, List, [], ◌∷◌, map, Option, String, Global, string_bytes, inl, inr, refl, sym, subst}
use Rattle.cedar_ast.specs.Words.{PlainName}
use Rattle.cedar_schema_ast.proofs.ExprLemmas.{record_type_expr-made}
use Rattle.cedar_schema_ast.specs.Words.{Expr, Members, Reference, attribute_step, members_from, named, raw_attribute, raw_expr, raw_name, raw_record, raw_reference, raw_variant, record_step, reference_to, type_step, variant_step}
use Rattle.cedar_schema_ast.specs.declared.json_schema.raw_name.RawName.{RawName}
use Rattle.cedar_schema_ast.specs.declared.json_schema.reference_type.ReferenceType.{ReferenceType}
use Rattle.cedar_schema_ast.specs.declared.json_schema.reference_type.ReferenceType.TheVariants.{Common, CommonOrEntity, Entity}
use Rattle.cedar_schema_ast.specs.declared.json_schema.type_of.RecordType.{RecordType, map-RecordType, roll-RecordType}
use Rattle.cedar_schema_ast.specs.declared.json_schema.type_of.Type.{«Type», fold-roll-Type, ind-Type, map-Type, roll-Type}
use Rattle.cedar_schema_ast.specs.declared.json_schema.type_of.Type.TheOpen as layer
use Rattle.cedar_schema_ast.specs.declared.json_schema.type_of.TypeOfAttribute.{TypeOfAttribute, fold-roll-TypeOfAttribute, map-TypeOfAttribute, roll-TypeOfAttribute}
use Rattle.cedar_schema_ast.specs.declared.json_schema.type_of.TypeVariant.{TypeVariant, fold-roll-TypeVariant, map-TypeVariant, roll-TypeVariant}
use Rattle.cedar_schema_semantics.specs.Words.{MembersRefer}
use Rattle.cedar_schema_text_meaning.specs.WritableBag.{IsWrittenIn}

module _ (namespace : Option PlainName) where
  -- parts of types whose references are as they were written in the namespace
  abbrev IsWritten : «Type» RawName → Type 0
  IsWritten ty = IsWrittenIn namespace (raw_expr namespace ty)

  abbrev IsWrittenVariant : TypeVariant RawName → Type 0
  IsWrittenVariant ty = IsWrittenIn namespace (raw_variant namespace ty)

  abbrev IsWrittenRecord : RecordType RawName → Type 0
  IsWrittenRecord ty = IsWrittenIn namespace (raw_record namespace ty)

  abbrev IsWrittenAttribute : TypeOfAttribute RawName → Type 0
  IsWrittenAttribute attribute = IsWrittenIn namespace (raw_attribute namespace attribute).1

  -- parts with what holds of them
  abbrev WrittenType : Type 0
  WrittenType = (ty : «Type» RawName) × IsWritten ty

  abbrev WrittenVariant : Type 0
  WrittenVariant = (ty : TypeVariant RawName) × IsWrittenVariant ty

  abbrev WrittenRecord : Type 0
  WrittenRecord = (ty : RecordType RawName) × IsWrittenRecord ty

  abbrev WrittenAttribute : Type 0
  WrittenAttribute = (attribute : TypeOfAttribute RawName) × IsWrittenAttribute attribute

  -- a layer without what holds of its parts
  abbrev type_parts : layer.Type-F RawName WrittenType WrittenVariant WrittenRecord WrittenAttribute
      → layer.Type-F RawName («Type» RawName) (TypeVariant RawName) (RecordType RawName) (TypeOfAttribute RawName)
  type_parts y = map-Type RawName WrittenType WrittenVariant WrittenRecord WrittenAttribute («Type» RawName) (TypeVariant RawName) (RecordType RawName)
      (TypeOfAttribute RawName) (λ e. e.0) (λ e. e.0) (λ e. e.0) (λ e. e.0) y

  abbrev variant_parts : layer.TypeVariant-F RawName WrittenType WrittenVariant WrittenRecord WrittenAttribute
      → layer.TypeVariant-F RawName («Type» RawName) (TypeVariant RawName) (RecordType RawName) (TypeOfAttribute RawName)
  variant_parts y = map-TypeVariant RawName WrittenType WrittenVariant WrittenRecord WrittenAttribute («Type» RawName) (TypeVariant RawName)
      (RecordType RawName) (TypeOfAttribute RawName) (λ e. e.0) (λ e. e.0) (λ e. e.0) (λ e. e.0) y

  abbrev record_parts : layer.RecordType-F RawName WrittenType WrittenVariant WrittenRecord WrittenAttribute
      → layer.RecordType-F RawName («Type» RawName) (TypeVariant RawName) (RecordType RawName) (TypeOfAttribute RawName)
  record_parts y = map-RecordType RawName WrittenType WrittenVariant WrittenRecord WrittenAttribute («Type» RawName) (TypeVariant RawName)
      (RecordType RawName) (TypeOfAttribute RawName) (λ e. e.0) (λ e. e.0) (λ e. e.0) (λ e. e.0) y

  abbrev attribute_parts : layer.TypeOfAttribute-F RawName WrittenType WrittenVariant WrittenRecord WrittenAttribute
      → layer.TypeOfAttribute-F RawName («Type» RawName) (TypeVariant RawName) (RecordType RawName) (TypeOfAttribute RawName)
  attribute_parts y = map-TypeOfAttribute RawName WrittenType WrittenVariant WrittenRecord WrittenAttribute («Type» RawName) (TypeVariant RawName)
      (RecordType RawName) (TypeOfAttribute RawName) (λ e. e.0) (λ e. e.0) (λ e. e.0) (λ e. e.0) y

  -- what a layer stands for over what its parts do
  abbrev type_of_layer : layer.Type-F RawName («Type» RawName) (TypeVariant RawName) (RecordType RawName) (TypeOfAttribute RawName) → Expr
  type_of_layer x = type_step RawName (raw_reference namespace) (map-Type RawName («Type» RawName) (TypeVariant RawName) (RecordType RawName)
      (TypeOfAttribute RawName) Expr Expr Expr (Bool × Expr) (raw_expr namespace) (raw_variant namespace) (raw_record namespace)
      (raw_attribute namespace) x)

  abbrev variant_of_layer : layer.TypeVariant-F RawName («Type» RawName) (TypeVariant RawName) (RecordType RawName) (TypeOfAttribute RawName) → Expr
  variant_of_layer x = variant_step RawName (raw_reference namespace) (map-TypeVariant RawName («Type» RawName) (TypeVariant RawName)
      (RecordType RawName) (TypeOfAttribute RawName) Expr Expr Expr (Bool × Expr) (raw_expr namespace) (raw_variant namespace) (raw_record namespace)
      (raw_attribute namespace) x)

  -- a reference is as it was written
  name_written : (kind : ReferenceType) (name : RawName) → IsWrittenIn namespace (named (raw_reference namespace kind name))
  name_written kind name reference is =
      (raw_name name, subst (λ (each : Reference). each ≡ reference_to namespace each.kind (raw_name name)) is refl)

  -- so are those of layers
  type_layers : (y : layer.Type-F RawName WrittenType WrittenVariant WrittenRecord WrittenAttribute)
      → IsWrittenIn namespace (type_of_layer (type_parts y))
  type_layers (layer.Plain ty loc) = ty.1
  type_layers (layer.CommonTypeRef name loc) = name_written Common name

  variant_layers : (y : layer.TypeVariant-F RawName WrittenType WrittenVariant WrittenRecord WrittenAttribute)
      → IsWrittenIn namespace (variant_of_layer (variant_parts y))
  variant_layers layer.String = λ reference none. absurd none
  variant_layers layer.Long = λ reference none. absurd none
  variant_layers layer.Boolean = λ reference none. absurd none
  variant_layers (layer.Set element) = element.value.1
  variant_layers (layer.Record attributes) = attributes.1
  variant_layers (layer.Entity name) = name_written Entity name
  variant_layers (layer.EntityOrCommon name) = name_written CommonOrEntity name
  variant_layers (layer.Extension name) = λ reference none. absurd none

  -- and of entries
  abbrev members_of : List (String Global × TypeOfAttribute RawName) → Members
  members_of entries = members_from (map (λ entry. (string_bytes entry.0, raw_attribute namespace entry.1)) entries)

  entries_written : (ys : List (String Global × WrittenAttribute)) (reference : Reference)
      → MembersRefer (members_of (map (λ e. (e.0, e.1.0)) ys)) reference
      → (name : PlainName) × (reference ≡ reference_to namespace reference.kind name)
  entries_written [] reference none = absurd none
  entries_written (y ∷ ys) reference refers = elim refers [ inl here ↦ y.1.1 reference here | inr later ↦ entries_written ys reference later ]

  type_written : (x : layer.Type-F RawName («Type» RawName) (TypeVariant RawName) (RecordType RawName) (TypeOfAttribute RawName))
      (y : layer.Type-F RawName WrittenType WrittenVariant WrittenRecord WrittenAttribute) → type_parts y ≡ x → IsWritten (roll-Type RawName x)
  type_written x y is =
      let folded = fold-roll-Type RawName Expr Expr Expr (Bool × Expr) (type_step RawName (raw_reference namespace))
      (variant_step RawName (raw_reference namespace)) (record_step RawName (raw_reference namespace)) (attribute_step RawName (raw_reference namespace))
      (type_parts y) in
      subst (λ each. IsWritten (roll-Type RawName each)) is (subst (IsWrittenIn namespace) (sym folded) (type_layers y))

  variant_written : (x : layer.TypeVariant-F RawName («Type» RawName) (TypeVariant RawName) (RecordType RawName) (TypeOfAttribute RawName))
      (y : layer.TypeVariant-F RawName WrittenType WrittenVariant WrittenRecord WrittenAttribute) → variant_parts y ≡ x
      → IsWrittenVariant (roll-TypeVariant RawName x)
  variant_written x y is =
      let folded = fold-roll-TypeVariant RawName Expr Expr Expr (Bool × Expr) (type_step RawName (raw_reference namespace))
      (variant_step RawName (raw_reference namespace)) (record_step RawName (raw_reference namespace)) (attribute_step RawName (raw_reference namespace))
      (variant_parts y) in
      subst (λ each. IsWrittenVariant (roll-TypeVariant RawName each)) is (subst (IsWrittenIn namespace) (sym folded) (variant_layers y))

  record_written : (x : layer.RecordType-F RawName («Type» RawName) (TypeVariant RawName) (RecordType RawName) (TypeOfAttribute RawName))
      (y : layer.RecordType-F RawName WrittenType WrittenVariant WrittenRecord WrittenAttribute) → record_parts y ≡ x
      → IsWrittenRecord (roll-RecordType RawName x)
  record_written x y is =
      let made = record_type_expr-made RawName (raw_reference namespace) (record_parts y) in
      subst (λ each. IsWrittenRecord (roll-RecordType RawName each)) is
      (subst (IsWrittenIn namespace) (sym made) (entries_written y.attributes.entries))

  attribute_written : (x : layer.TypeOfAttribute-F RawName («Type» RawName) (TypeVariant RawName) (RecordType RawName) (TypeOfAttribute RawName))
      (y : layer.TypeOfAttribute-F RawName WrittenType WrittenVariant WrittenRecord WrittenAttribute) → attribute_parts y ≡ x
      → IsWrittenAttribute (roll-TypeOfAttribute RawName x)
  attribute_written x y is =
      let folded = fold-roll-TypeOfAttribute RawName Expr Expr Expr (Bool × Expr) (type_step RawName (raw_reference namespace))
      (variant_step RawName (raw_reference namespace)) (record_step RawName (raw_reference namespace)) (attribute_step RawName (raw_reference namespace))
      (attribute_parts y) in
      subst (λ each. IsWrittenAttribute (roll-TypeOfAttribute RawName each)) is
      (subst (λ (each : Bool × Expr). IsWrittenIn namespace each.1) (sym folded) y.ty.1)

  -- the references of a type are as they were written
  pub type_is_written : (ty : «Type» RawName) → IsWrittenIn namespace (raw_expr namespace ty)
  type_is_written ty =
      ind-Type RawName IsWritten IsWrittenVariant IsWrittenRecord IsWrittenAttribute type_written variant_written record_written attribute_written ty
