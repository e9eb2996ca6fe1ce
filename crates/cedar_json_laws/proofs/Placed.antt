-- Types and references that were written, as they stand in a namespace.
use Rattle.std.proofs.Common.{◌≡◌, Bool, List, [], ◌∷◌, map, Option, None, String, Global, string_bytes, refl, ap, sym, subst, ◌∙◌}
use Rattle.cedar_json_laws.specs.Words.{Expr, Members, PlainName, RawName, RecordType, Reference, «Type», TypeOfAttribute, TypeVariant, attribute_step, extension_expr, fold-roll-Type, fold-roll-TypeOfAttribute, fold-roll-TypeVariant, ind-Type, long_expr, map-RecordType, map-Type, map-TypeOfAttribute, map-TypeVariant, member, members_from, named, no_member, possible_names, raw_attribute, raw_expr, raw_record, raw_reference, raw_variant, record_expr, record_step, roll-RecordType, roll-Type, roll-TypeOfAttribute, roll-TypeVariant, set_expr, text_expr, truth_expr, type_step, variant_step}
use Rattle.cedar_schema_ast.proofs.ExprLemmas.{record_type_expr-made}
use Rattle.cedar_schema_ast.specs.declared.json_schema.type_of.Type.TheOpen as layer

-- the names that a written name may stand for in a namespace, by those in the empty one
abbrev pub names_in : Option PlainName → List PlainName → List PlainName
names_in namespace [] = []
names_in namespace (name ∷ rest) = possible_names namespace name

-- a reference that was written, as it stands in a namespace
abbrev pub reference_in : Option PlainName → Reference → Reference
reference_in namespace reference = record { possibilities = names_in namespace reference.possibilities; kind = reference.kind }

abbrev mutual
  -- a type that was written, as it stands in a namespace
  pub expr_in : Option PlainName → Expr → Expr
  expr_in namespace text_expr = text_expr
  expr_in namespace long_expr = long_expr
  expr_in namespace truth_expr = truth_expr
  expr_in namespace (set_expr element) = set_expr (expr_in namespace element)
  expr_in namespace (record_expr all additional) = record_expr (members_in namespace all) additional
  expr_in namespace (named reference) = named (reference_in namespace reference)
  expr_in namespace (extension_expr name) = extension_expr name

  -- attributes that were written
  pub members_in : Option PlainName → Members → Members
  members_in namespace no_member = no_member
  members_in namespace (member name required ty rest) = member name required (expr_in namespace ty) (members_in namespace rest)

module _ (namespace : Option PlainName) where
  -- a type stands for what it does where it was written, in the namespace
  abbrev IsPlaced : «Type» RawName → Type 0
  IsPlaced ty = raw_expr namespace ty ≡ expr_in namespace (raw_expr None ty)

  abbrev IsPlacedVariant : TypeVariant RawName → Type 0
  IsPlacedVariant ty = raw_variant namespace ty ≡ expr_in namespace (raw_variant None ty)

  abbrev IsPlacedRecord : RecordType RawName → Type 0
  IsPlacedRecord ty = raw_record namespace ty ≡ expr_in namespace (raw_record None ty)

  -- an attribute does so too
  abbrev attribute_in : Bool × Expr → Bool × Expr
  attribute_in attribute = (attribute.0, expr_in namespace attribute.1)

  abbrev IsPlacedAttribute : TypeOfAttribute RawName → Type 0
  IsPlacedAttribute attribute = raw_attribute namespace attribute ≡ attribute_in (raw_attribute None attribute)

  -- parts with what holds of them
  abbrev PlacedType : Type 0
  PlacedType = (ty : «Type» RawName) × IsPlaced ty

  abbrev PlacedVariant : Type 0
  PlacedVariant = (ty : TypeVariant RawName) × IsPlacedVariant ty

  abbrev PlacedRecord : Type 0
  PlacedRecord = (ty : RecordType RawName) × IsPlacedRecord ty

  abbrev PlacedAttribute : Type 0
  PlacedAttribute = (attribute : TypeOfAttribute RawName) × IsPlacedAttribute attribute

  -- a layer without what holds of its parts
  abbrev type_parts : layer.Type-F RawName PlacedType PlacedVariant PlacedRecord PlacedAttribute
      → layer.Type-F RawName («Type» RawName) (TypeVariant RawName) (RecordType RawName) (TypeOfAttribute RawName)
  type_parts y = map-Type RawName PlacedType PlacedVariant PlacedRecord PlacedAttribute («Type» RawName) (TypeVariant RawName) (RecordType RawName)
      (TypeOfAttribute RawName) (λ e. e.0) (λ e. e.0) (λ e. e.0) (λ e. e.0) y

  abbrev variant_parts : layer.TypeVariant-F RawName PlacedType PlacedVariant PlacedRecord PlacedAttribute
      → layer.TypeVariant-F RawName («Type» RawName) (TypeVariant RawName) (RecordType RawName) (TypeOfAttribute RawName)
  variant_parts y = map-TypeVariant RawName PlacedType PlacedVariant PlacedRecord PlacedAttribute («Type» RawName) (TypeVariant RawName)
      (RecordType RawName) (TypeOfAttribute RawName) (λ e. e.0) (λ e. e.0) (λ e. e.0) (λ e. e.0) y

  abbrev record_parts : layer.RecordType-F RawName PlacedType PlacedVariant PlacedRecord PlacedAttribute
      → layer.RecordType-F RawName («Type» RawName) (TypeVariant RawName) (RecordType RawName) (TypeOfAttribute RawName)
  record_parts y = map-RecordType RawName PlacedType PlacedVariant PlacedRecord PlacedAttribute («Type» RawName) (TypeVariant RawName)
      (RecordType RawName) (TypeOfAttribute RawName) (λ e. e.0) (λ e. e.0) (λ e. e.0) (λ e. e.0) y

  abbrev attribute_parts : layer.TypeOfAttribute-F RawName PlacedType PlacedVariant PlacedRecord PlacedAttribute
      → layer.TypeOfAttribute-F RawName («Type» RawName) (TypeVariant RawName) (RecordType RawName) (TypeOfAttribute RawName)
  attribute_parts y = map-TypeOfAttribute RawName PlacedType PlacedVariant PlacedRecord PlacedAttribute («Type» RawName) (TypeVariant RawName)
      (RecordType RawName) (TypeOfAttribute RawName) (λ e. e.0) (λ e. e.0) (λ e. e.0) (λ e. e.0) y

  -- what a layer stands for over what its parts do
  abbrev type_of_layer : Option PlainName
      → layer.Type-F RawName («Type» RawName) (TypeVariant RawName) (RecordType RawName) (TypeOfAttribute RawName) → Expr
  type_of_layer within x = type_step RawName (raw_reference within) (map-Type RawName («Type» RawName) (TypeVariant RawName) (RecordType RawName)
      (TypeOfAttribute RawName) Expr Expr Expr (Bool × Expr) (raw_expr within) (raw_variant within) (raw_record within) (raw_attribute within) x)

  abbrev variant_of_layer : Option PlainName
      → layer.TypeVariant-F RawName («Type» RawName) (TypeVariant RawName) (RecordType RawName) (TypeOfAttribute RawName) → Expr
  variant_of_layer within x = variant_step RawName (raw_reference within) (map-TypeVariant RawName («Type» RawName) (TypeVariant RawName)
      (RecordType RawName) (TypeOfAttribute RawName) Expr Expr Expr (Bool × Expr) (raw_expr within) (raw_variant within) (raw_record within)
      (raw_attribute within) x)

  -- layers stand for what they do where they were written, in the namespace
  type_layers : (y : layer.Type-F RawName PlacedType PlacedVariant PlacedRecord PlacedAttribute)
      → type_of_layer namespace (type_parts y) ≡ expr_in namespace (type_of_layer None (type_parts y))
  type_layers (layer.Plain ty loc) = ty.1
  type_layers (layer.CommonTypeRef name loc) = refl

  variant_layers : (y : layer.TypeVariant-F RawName PlacedType PlacedVariant PlacedRecord PlacedAttribute)
      → variant_of_layer namespace (variant_parts y) ≡ expr_in namespace (variant_of_layer None (variant_parts y))
  variant_layers layer.String = refl
  variant_layers layer.Long = refl
  variant_layers layer.Boolean = refl
  variant_layers (layer.Set element) = ap set_expr element.value.1
  variant_layers (layer.Record attributes) = attributes.1
  variant_layers (layer.Entity name) = refl
  variant_layers (layer.EntityOrCommon name) = refl
  variant_layers (layer.Extension name) = refl

  -- entries do so one after another
  abbrev members_of : Option PlainName → List (String Global × TypeOfAttribute RawName) → Members
  members_of within entries = members_from (map (λ entry. (string_bytes entry.0, raw_attribute within entry.1)) entries)

  entries_placed : (ys : List (String Global × PlacedAttribute))
      → members_of namespace (map (λ e. (e.0, e.1.0)) ys) ≡ members_in namespace (members_of None (map (λ e. (e.0, e.1.0)) ys))
  entries_placed [] = refl
  entries_placed (y ∷ ys) = λ i. member (string_bytes y.0) (y.1.1 i).0 (y.1.1 i).1 (entries_placed ys i)

  type_placed : (x : layer.Type-F RawName («Type» RawName) (TypeVariant RawName) (RecordType RawName) (TypeOfAttribute RawName))
      (y : layer.Type-F RawName PlacedType PlacedVariant PlacedRecord PlacedAttribute) → type_parts y ≡ x → IsPlaced (roll-Type RawName x)
  type_placed x y is =
      let folded = λ (within : Option PlainName). fold-roll-Type RawName Expr Expr Expr (Bool × Expr) (type_step RawName (raw_reference within))
      (variant_step RawName (raw_reference within)) (record_step RawName (raw_reference within)) (attribute_step RawName (raw_reference within))
      (type_parts y) in
      subst (λ each. IsPlaced (roll-Type RawName each)) is
      (folded namespace ∙ (type_layers y ∙ sym (ap (expr_in namespace) (folded None))))

  variant_placed : (x : layer.TypeVariant-F RawName («Type» RawName) (TypeVariant RawName) (RecordType RawName) (TypeOfAttribute RawName))
      (y : layer.TypeVariant-F RawName PlacedType PlacedVariant PlacedRecord PlacedAttribute) → variant_parts y ≡ x
      → IsPlacedVariant (roll-TypeVariant RawName x)
  variant_placed x y is =
      let folded = λ (within : Option PlainName). fold-roll-TypeVariant RawName Expr Expr Expr (Bool × Expr) (type_step RawName (raw_reference within))
      (variant_step RawName (raw_reference within)) (record_step RawName (raw_reference within)) (attribute_step RawName (raw_reference within))
      (variant_parts y) in
      subst (λ each. IsPlacedVariant (roll-TypeVariant RawName each)) is
      (folded namespace ∙ (variant_layers y ∙ sym (ap (expr_in namespace) (folded None))))

  record_placed : (x : layer.RecordType-F RawName («Type» RawName) (TypeVariant RawName) (RecordType RawName) (TypeOfAttribute RawName))
      (y : layer.RecordType-F RawName PlacedType PlacedVariant PlacedRecord PlacedAttribute) → record_parts y ≡ x
      → IsPlacedRecord (roll-RecordType RawName x)
  record_placed x y is =
      let made = λ (within : Option PlainName). record_type_expr-made RawName (raw_reference within) (record_parts y) in
      subst (λ each. IsPlacedRecord (roll-RecordType RawName each)) is
      (made namespace ∙ (ap (λ members. record_expr members y.additional_attributes) (entries_placed y.attributes.entries)
      ∙ sym (ap (expr_in namespace) (made None))))

  attribute_placed : (x : layer.TypeOfAttribute-F RawName («Type» RawName) (TypeVariant RawName) (RecordType RawName) (TypeOfAttribute RawName))
      (y : layer.TypeOfAttribute-F RawName PlacedType PlacedVariant PlacedRecord PlacedAttribute) → attribute_parts y ≡ x
      → IsPlacedAttribute (roll-TypeOfAttribute RawName x)
  attribute_placed x y is =
      let folded = λ (within : Option PlainName). fold-roll-TypeOfAttribute RawName Expr Expr Expr (Bool × Expr)
      (type_step RawName (raw_reference within)) (variant_step RawName (raw_reference within)) (record_step RawName (raw_reference within))
      (attribute_step RawName (raw_reference within)) (attribute_parts y) in
      let here : (y.required, raw_expr namespace y.ty.0) ≡ (y.required, expr_in namespace (raw_expr None y.ty.0)) = λ i. (y.required, y.ty.1 i) in
      subst (λ each. IsPlacedAttribute (roll-TypeOfAttribute RawName each)) is
      (folded namespace ∙ (here ∙ sym (ap attribute_in (folded None))))

  -- a type that was written stands in a namespace for what it does there
  pub types_placed : (ty : «Type» RawName) → raw_expr namespace ty ≡ expr_in namespace (raw_expr None ty)
  types_placed ty =
      ind-Type RawName IsPlaced IsPlacedVariant IsPlacedRecord IsPlacedAttribute type_placed variant_placed record_placed attribute_placed ty
