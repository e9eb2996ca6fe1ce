-- What a type of the library says, by what it is shown as: how deep it is, and its plain data.
use Rattle.std.proofs.Common.{◌≡◌, ℕ, ◌+◌, suc, max, Bool, List, [], ◌∷◌, map, Option, None, String, Global, string_bytes, refl, ap, ap₂, sym, subst, ◌∙◌, arith}
use Rattle.std.proofs.lemmas.Simd.{map-map}
use Rattle.std.specs.Bool.{⊤}
use Rattle.cedar_ast.specs.Words.{Text}
use Rattle.cedar_ast.specs.declared.loc.Loc.{Loc}
use Rattle.cedar_schema_ast.proofs.ExprLemmas.{record_type_expr-made}
use Rattle.cedar_schema_ast.specs.Nesting.{attribute_nesting, attribute_nesting_step, greatest, record_nesting, record_nesting_step, type_nesting, type_nesting_step, variant_nesting, variant_nesting_step}
use Rattle.cedar_schema_ast.specs.TypeExpr as expr
use Rattle.cedar_schema_ast.specs.Words.{Expr, member, members_from, raw_attribute, raw_expr, raw_record, raw_reference, raw_variant, record_expr, set_expr}
use Rattle.cedar_schema_ast.specs.declared.json_schema.raw_name.RawName.{RawName}
use Rattle.cedar_schema_ast.specs.declared.json_schema.type_of.RecordType.{RecordType, fold-roll-RecordType, map-RecordType, roll-RecordType}
use Rattle.cedar_schema_ast.specs.declared.json_schema.type_of.Type.{fold-roll-Type, ind-Type, map-Type, «Type»}
use Rattle.cedar_schema_ast.specs.declared.json_schema.type_of.Type.{roll-Type}
use Rattle.cedar_schema_ast.specs.declared.json_schema.type_of.Type.TheOpen as layer
use Rattle.cedar_schema_ast.specs.declared.json_schema.type_of.TypeOfAttribute.{TypeOfAttribute, fold-roll-TypeOfAttribute, map-TypeOfAttribute, roll-TypeOfAttribute}
use Rattle.cedar_schema_ast.specs.declared.json_schema.type_of.TypeVariant.{TypeVariant, fold-roll-TypeVariant, map-TypeVariant, roll-TypeVariant}
use Rattle.cedar_schema_text.specs.Placed.{AttributeAt, FieldsAt, TypeAt, common_type, either_type, field, fields_from, no_field, other_type, record_type, set_type}
use Rattle.cedar_schema_text.specs.Shown.{Unplaced, attribute_shown, attribute_step, record_shown, record_step, type_shown, type_step, variant_shown, variant_step}
use Rattle.cedar_schema_text_laws.proofs.Said.{fields_said, type_said}
use Rattle.cedar_schema_text_laws.proofs.TypeTexts.{nest, nest_members}

abbrev mutual
  -- a type of a form that texts say stands wherever one does
  pub IsTextual : TypeAt → Type 0
  IsTextual (common_type name loc) = ⊤
  IsTextual (either_type name loc) = ⊤
  IsTextual (set_type element loc) = IsTextual element
  IsTextual (record_type fields additional loc) = AreTextual fields
  IsTextual other_type = ⊥

  pub AreTextual : FieldsAt → Type 0
  AreTextual no_field = ⊤
  AreTextual (field name ty required loc rest) = IsTextual ty × AreTextual rest

-- an expression has so many levels, and is what a type says that is of such a form
record IsShownAs (e : Expr) (high : ℕ) (it : TypeAt) : Type 0 where
  levels : nest e ≡ high
  says : IsTextual it → e ≡ type_said it

-- and so is what is the same
moved : (e f : Expr) (n m : ℕ) (a b : TypeAt) → e ≡ f → n ≡ m → a ≡ b → IsShownAs f m b → IsShownAs e n a
moved e f n m a b same levels shown is = record {
  levels = ap nest same ∙ (is.levels ∙ sym levels);
  says = λ textual. same ∙ (is.says (subst IsTextual shown textual) ∙ sym (ap type_said shown));
}

abbrev HoldsType : «Type» RawName → Type 0
HoldsType ty = IsShownAs (raw_expr None ty) (type_nesting RawName ty) (type_shown ty)

abbrev HoldsVariant : TypeVariant RawName → Type 0
HoldsVariant ty = (loc : Option Loc) → IsShownAs (raw_variant None ty) (variant_nesting RawName ty) (variant_shown ty loc)

abbrev HoldsRecord : RecordType RawName → Type 0
HoldsRecord ty = (loc : Option Loc) → IsShownAs (raw_record None ty) (1 + record_nesting RawName ty) (record_shown ty loc)

abbrev HoldsAttribute : TypeOfAttribute RawName → Type 0
HoldsAttribute it =
    ((raw_attribute None it).0 ≡ (attribute_shown it).required)
    × IsShownAs (raw_attribute None it).1 (attribute_nesting RawName it) (attribute_shown it).ty

-- parts with what holds of them
abbrev ShownType : Type 0
ShownType = (ty : «Type» RawName) × HoldsType ty

abbrev ShownVariant : Type 0
ShownVariant = (ty : TypeVariant RawName) × HoldsVariant ty

abbrev ShownRecord : Type 0
ShownRecord = (ty : RecordType RawName) × HoldsRecord ty

abbrev ShownAttribute : Type 0
ShownAttribute = (it : TypeOfAttribute RawName) × HoldsAttribute it

-- a layer without what holds of its parts
abbrev type_parts : layer.Type-F RawName ShownType ShownVariant ShownRecord ShownAttribute
    → layer.Type-F RawName («Type» RawName) (TypeVariant RawName) (RecordType RawName) (TypeOfAttribute RawName)
type_parts y = map-Type RawName ShownType ShownVariant ShownRecord ShownAttribute («Type» RawName) (TypeVariant RawName) (RecordType RawName)
    (TypeOfAttribute RawName) (λ e. e.0) (λ e. e.0) (λ e. e.0) (λ e. e.0) y

abbrev variant_parts : layer.TypeVariant-F RawName ShownType ShownVariant ShownRecord ShownAttribute
    → layer.TypeVariant-F RawName («Type» RawName) (TypeVariant RawName) (RecordType RawName) (TypeOfAttribute RawName)
variant_parts y = map-TypeVariant RawName ShownType ShownVariant ShownRecord ShownAttribute («Type» RawName) (TypeVariant RawName)
    (RecordType RawName) (TypeOfAttribute RawName) (λ e. e.0) (λ e. e.0) (λ e. e.0) (λ e. e.0) y

abbrev record_parts : layer.RecordType-F RawName ShownType ShownVariant ShownRecord ShownAttribute
    → layer.RecordType-F RawName («Type» RawName) (TypeVariant RawName) (RecordType RawName) (TypeOfAttribute RawName)
record_parts y = map-RecordType RawName ShownType ShownVariant ShownRecord ShownAttribute («Type» RawName) (TypeVariant RawName)
    (RecordType RawName) (TypeOfAttribute RawName) (λ e. e.0) (λ e. e.0) (λ e. e.0) (λ e. e.0) y

abbrev attribute_parts : layer.TypeOfAttribute-F RawName ShownType ShownVariant ShownRecord ShownAttribute
    → layer.TypeOfAttribute-F RawName («Type» RawName) (TypeVariant RawName) (RecordType RawName) (TypeOfAttribute RawName)
attribute_parts y = map-TypeOfAttribute RawName ShownType ShownVariant ShownRecord ShownAttribute («Type» RawName) (TypeVariant RawName)
    (RecordType RawName) (TypeOfAttribute RawName) (λ e. e.0) (λ e. e.0) (λ e. e.0) (λ e. e.0) y

-- a layer of a type holds where its parts do
type_layers : (y : layer.Type-F RawName ShownType ShownVariant ShownRecord ShownAttribute)
    → IsShownAs (expr.type_step RawName (raw_reference None) (map-Type RawName («Type» RawName) (TypeVariant RawName) (RecordType RawName)
    (TypeOfAttribute RawName) Expr Expr Expr (Bool × Expr) (raw_expr None) (raw_variant None) (raw_record None) (raw_attribute None) (type_parts y)))
    (type_nesting_step RawName (map-Type RawName («Type» RawName) (TypeVariant RawName) (RecordType RawName) (TypeOfAttribute RawName) ℕ ℕ ℕ ℕ
    (type_nesting RawName) (variant_nesting RawName) (record_nesting RawName) (attribute_nesting RawName) (type_parts y)))
    (type_step (map-Type RawName («Type» RawName) (TypeVariant RawName) (RecordType RawName) (TypeOfAttribute RawName) TypeAt Unplaced Unplaced AttributeAt
    type_shown variant_shown record_shown attribute_shown (type_parts y)))
type_layers (layer.Plain ty loc) = ty.1 loc
type_layers (layer.CommonTypeRef name loc) = record { levels = refl; says = λ textual. refl }

no_textual : {e : Expr} → nest e ≡ 0 → IsShownAs e 0 other_type
no_textual levels = record { levels = levels; says = λ textual. absurd textual }

one_more : (n : ℕ) → suc n ≡ 1 + n
one_more n = omega arith

variant_layers : (y : layer.TypeVariant-F RawName ShownType ShownVariant ShownRecord ShownAttribute) (loc : Option Loc)
    → IsShownAs (expr.variant_step RawName (raw_reference None) (map-TypeVariant RawName («Type» RawName) (TypeVariant RawName) (RecordType RawName)
    (TypeOfAttribute RawName) Expr Expr Expr (Bool × Expr) (raw_expr None) (raw_variant None) (raw_record None) (raw_attribute None) (variant_parts y)))
    (variant_nesting_step RawName (map-TypeVariant RawName («Type» RawName) (TypeVariant RawName) (RecordType RawName) (TypeOfAttribute RawName) ℕ ℕ ℕ ℕ
    (type_nesting RawName) (variant_nesting RawName) (record_nesting RawName) (attribute_nesting RawName) (variant_parts y)))
    (variant_step (map-TypeVariant RawName («Type» RawName) (TypeVariant RawName) (RecordType RawName) (TypeOfAttribute RawName) TypeAt Unplaced Unplaced AttributeAt
    type_shown variant_shown record_shown attribute_shown (variant_parts y)) loc)
variant_layers layer.String loc = no_textual refl
variant_layers layer.Long loc = no_textual refl
variant_layers layer.Boolean loc = no_textual refl
variant_layers (layer.Set element) loc = record {
  levels = ap suc element.value.1.levels ∙ one_more (type_nesting RawName element.value.0);
  says = λ textual. ap set_expr (element.value.1.says textual);
}
variant_layers (layer.Record attributes) loc = attributes.1 loc
variant_layers (layer.Entity name) loc = no_textual refl
variant_layers (layer.EntityOrCommon name) loc = record { levels = refl; says = λ textual. refl }
variant_layers (layer.Extension name) loc = no_textual refl

-- entries
abbrev Entries : Type 0
Entries = List (String Global × ShownAttribute)

-- the entries without what holds of them
abbrev bare : Entries → List (String Global × TypeOfAttribute RawName)
bare ys = map (λ e. (e.0, e.1.0)) ys

abbrev entries_raw : Entries → List (Text × (Bool × Expr))
entries_raw ys = map (λ entry. (string_bytes entry.0, raw_attribute None entry.1)) (bare ys)

abbrev entries_nest : Entries → List ℕ
entries_nest ys = map (λ entry. attribute_nesting RawName entry.1) (bare ys)

abbrev entries_at : Entries → List (Text × AttributeAt)
entries_at ys = map (λ entry. (string_bytes entry.0, attribute_shown entry.1)) (bare ys)

levels_of : (ys : Entries) → nest_members (members_from (entries_raw ys)) ≡ greatest (entries_nest ys)
levels_of [] = refl
levels_of (y ∷ ys) = ap₂ max y.1.1.1.levels (levels_of ys)

says_of : (ys : Entries) → AreTextual (fields_from (entries_at ys)) → members_from (entries_raw ys) ≡ fields_said (fields_from (entries_at ys))
says_of [] textual = refl
says_of (y ∷ ys) textual = λ i. member (string_bytes y.0) (y.1.1.0 i) (y.1.1.1.says textual.0 i) (says_of ys textual.1 i)

-- a record of entries holds where these do
entries_hold : (ys : Entries) (additional : Bool) (loc : Option Loc)
    → IsShownAs (record_expr (members_from (entries_raw ys)) additional) (1 + greatest (entries_nest ys)) (record_type (fields_from (entries_at ys)) additional loc)
entries_hold ys additional loc = record {
  levels = ap suc (levels_of ys) ∙ one_more (greatest (entries_nest ys));
  says = λ textual. ap (λ members. record_expr members additional) (says_of ys textual);
}

type_holds : (x : layer.Type-F RawName («Type» RawName) (TypeVariant RawName) (RecordType RawName) (TypeOfAttribute RawName))
    (y : layer.Type-F RawName ShownType ShownVariant ShownRecord ShownAttribute) → type_parts y ≡ x → HoldsType (roll-Type RawName x)
type_holds x y is =
    let raw = fold-roll-Type RawName Expr Expr Expr (Bool × Expr) (expr.type_step RawName (raw_reference None))
    (expr.variant_step RawName (raw_reference None)) (expr.record_step RawName (raw_reference None)) (expr.attribute_step RawName (raw_reference None)) (type_parts y) in
    let nested = fold-roll-Type RawName ℕ ℕ ℕ ℕ (type_nesting_step RawName) (variant_nesting_step RawName) (record_nesting_step RawName) (attribute_nesting_step RawName) (type_parts y) in
    let shown = fold-roll-Type RawName TypeAt Unplaced Unplaced AttributeAt type_step variant_step record_step attribute_step (type_parts y) in
    subst (λ each. HoldsType (roll-Type RawName each)) is (moved _ _ _ _ _ _ raw nested shown (type_layers y))

variant_holds : (x : layer.TypeVariant-F RawName («Type» RawName) (TypeVariant RawName) (RecordType RawName) (TypeOfAttribute RawName))
    (y : layer.TypeVariant-F RawName ShownType ShownVariant ShownRecord ShownAttribute) → variant_parts y ≡ x → HoldsVariant (roll-TypeVariant RawName x)
variant_holds x y is =
    let raw = fold-roll-TypeVariant RawName Expr Expr Expr (Bool × Expr) (expr.type_step RawName (raw_reference None))
    (expr.variant_step RawName (raw_reference None)) (expr.record_step RawName (raw_reference None)) (expr.attribute_step RawName (raw_reference None)) (variant_parts y) in
    let nested = fold-roll-TypeVariant RawName ℕ ℕ ℕ ℕ (type_nesting_step RawName) (variant_nesting_step RawName) (record_nesting_step RawName) (attribute_nesting_step RawName) (variant_parts y) in
    let shown = fold-roll-TypeVariant RawName TypeAt Unplaced Unplaced AttributeAt type_step variant_step record_step attribute_step (variant_parts y) in
    subst (λ each. HoldsVariant (roll-TypeVariant RawName each)) is (λ loc. moved _ _ _ _ _ _ raw nested (ap (λ f. f loc) shown) (variant_layers y loc))

record_holds : (x : layer.RecordType-F RawName («Type» RawName) (TypeVariant RawName) (RecordType RawName) (TypeOfAttribute RawName))
    (y : layer.RecordType-F RawName ShownType ShownVariant ShownRecord ShownAttribute) → record_parts y ≡ x → HoldsRecord (roll-RecordType RawName x)
record_holds x y is =
    let raw = record_type_expr-made RawName (raw_reference None) (record_parts y) in
    let nested = fold-roll-RecordType RawName ℕ ℕ ℕ ℕ (type_nesting_step RawName) (variant_nesting_step RawName) (record_nesting_step RawName) (attribute_nesting_step RawName) (record_parts y)
    ∙ ap greatest (map-map _ _ _) in
    let shown = λ (loc : Option Loc). ap (λ f. f loc) (fold-roll-RecordType RawName TypeAt Unplaced Unplaced AttributeAt type_step variant_step record_step attribute_step (record_parts y))
    ∙ ap (λ entries. record_type (fields_from entries) y.additional_attributes loc) (map-map _ _ _) in
    subst (λ each. HoldsRecord (roll-RecordType RawName each)) is (λ loc. moved _ _ _ _ _ _ raw (ap (λ n. 1 + n) nested) (shown loc) (entries_hold y.attributes.entries y.additional_attributes loc))

attribute_holds : (x : layer.TypeOfAttribute-F RawName («Type» RawName) (TypeVariant RawName) (RecordType RawName) (TypeOfAttribute RawName))
    (y : layer.TypeOfAttribute-F RawName ShownType ShownVariant ShownRecord ShownAttribute) → attribute_parts y ≡ x → HoldsAttribute (roll-TypeOfAttribute RawName x)
attribute_holds x y is =
    let raw = fold-roll-TypeOfAttribute RawName Expr Expr Expr (Bool × Expr) (expr.type_step RawName (raw_reference None))
    (expr.variant_step RawName (raw_reference None)) (expr.record_step RawName (raw_reference None)) (expr.attribute_step RawName (raw_reference None)) (attribute_parts y) in
    let nested = fold-roll-TypeOfAttribute RawName ℕ ℕ ℕ ℕ (type_nesting_step RawName) (variant_nesting_step RawName) (record_nesting_step RawName) (attribute_nesting_step RawName) (attribute_parts y) in
    let shown = fold-roll-TypeOfAttribute RawName TypeAt Unplaced Unplaced AttributeAt type_step variant_step record_step attribute_step (attribute_parts y) in
    subst (λ each. HoldsAttribute (roll-TypeOfAttribute RawName each)) is (
      ap (λ it. it.0) raw ∙ sym (ap (λ it. it.required) shown),
      moved _ _ _ _ _ _ (ap (λ it. it.1) raw) nested (ap (λ it. it.ty) shown) y.ty.1,
    )

holds : (ty : «Type» RawName) → HoldsType ty
holds ty = ind-Type RawName HoldsType HoldsVariant HoldsRecord HoldsAttribute type_holds variant_holds record_holds attribute_holds ty

-- how many levels a type has
pub nest_raw : (ty : «Type» RawName) → nest (raw_expr None ty) ≡ type_nesting RawName ty
nest_raw ty = (holds ty).levels

-- what a type says that is of a form that texts say
pub raw_said : (ty : «Type» RawName) → IsTextual (type_shown ty) → raw_expr None ty ≡ type_said (type_shown ty)
raw_said ty = (holds ty).says
