-- What is listed of a type stands in what it is written as.
use Rattle.std.proofs.Common.{◌≡◌, ◌↔◌, ◌⊎◌, Bool, true, false, cond, List, [], ◌∷◌, ◌++◌, map, Option, None, String, Global, IsTrue, inl, inr, refl, ap, sym, subst, ◌∙◌, string_bytes, Contains}
use Rattle.std.proofs.lemmas.List.{map-append}
use Rattle.std.proofs.lemmas.List.Elements.{Contains-append_cases, Contains-append_left, Contains-append_right}
use Rattle.std.specs.List.{flat_map}
use Rattle.cedar_ast.proofs.Basics.{Contains-none, Contains-single}
use Rattle.cedar_ast.proofs.Lists.{Contains-cons}
use Rattle.cedar_places.specs.Mark.{Mark, action, common_type, entity_type, extension_type, open_record}
use Rattle.cedar_places.specs.PlaceLaws.{IsMarkIn, MarksAreMentioned}
use Rattle.cedar_places.specs.Words.{Expr, Loc, Marks, MarksAt, RawName, Text, attribute_marks, attribute_marks_step, attribute_step, members_from, raw_attribute, raw_expr, raw_record, raw_reference, raw_variant, record_marks, record_marks_step, record_step, type_marks, type_marks_step, type_step, variant_marks, variant_marks_step, variant_step}
use Rattle.cedar_schema_ast.specs.Words.{Members, extension_expr, long_expr, member, named, no_member, record_expr, set_expr, text_expr, truth_expr}
use Rattle.cedar_schema_ast.specs.declared.json_schema.type_of.RecordType.{RecordType, fold-roll-RecordType, map-RecordType, roll-RecordType}
use Rattle.cedar_schema_ast.specs.declared.json_schema.type_of.Type.{«Type», fold-roll-Type, ind-Type, map-Type, roll-Type}
use Rattle.cedar_schema_ast.specs.declared.json_schema.type_of.Type.TheOpen as layer
use Rattle.cedar_schema_ast.specs.declared.json_schema.type_of.TypeOfAttribute.{TypeOfAttribute, fold-roll-TypeOfAttribute, map-TypeOfAttribute, roll-TypeOfAttribute}
use Rattle.cedar_schema_ast.specs.declared.json_schema.type_of.TypeVariant.{TypeVariant, fold-roll-TypeVariant, map-TypeVariant, roll-TypeVariant}
use Rattle.cedar_schema_semantics.specs.Words.{HasOpenRecord, MembersHaveOpenRecord, MembersMentionExtension, MentionsExtension}

-- the marks without their places
abbrev bare : Marks → List Mark
bare marks = map (λ it. it.0) marks

-- the mark of a record type, where it is open
abbrev if_open : Bool → List Mark
if_open additional = cond additional (open_record ∷ []) []

abbrev mutual
  -- the marks that stand in an expression
  marks_in : Expr → List Mark
  marks_in text_expr = []
  marks_in long_expr = []
  marks_in truth_expr = []
  marks_in (set_expr element) = marks_in element
  marks_in (record_expr members additional) = if_open additional ++ marks_in_members members
  marks_in (named reference) = []
  marks_in (extension_expr name) = extension_type name ∷ []

  -- those in attributes
  marks_in_members : Members → List Mark
  marks_in_members no_member = []
  marks_in_members (member name required expr rest) = marks_in expr ++ marks_in_members rest

-- of each part the marks that are listed are those in what it is written as
abbrev IsListed : «Type» RawName → Type 0
IsListed ty = bare (type_marks ty) ≡ marks_in (raw_expr None ty)

abbrev IsListedVariant : TypeVariant RawName → Type 0
IsListedVariant ty = (loc : Option Loc) → bare (variant_marks ty loc) ≡ marks_in (raw_variant None ty)

abbrev IsListedRecord : RecordType RawName → Type 0
IsListedRecord ty = (loc : Option Loc) → bare (record_marks ty loc) ≡ marks_in (raw_record None ty)

abbrev IsListedAttribute : TypeOfAttribute RawName → Type 0
IsListedAttribute attribute = bare (attribute_marks attribute) ≡ marks_in (raw_attribute None attribute).1

-- parts with what holds of them
abbrev ListedType : Type 0
ListedType = (ty : «Type» RawName) × IsListed ty

abbrev ListedVariant : Type 0
ListedVariant = (ty : TypeVariant RawName) × IsListedVariant ty

abbrev ListedRecord : Type 0
ListedRecord = (ty : RecordType RawName) × IsListedRecord ty

abbrev ListedAttribute : Type 0
ListedAttribute = (attribute : TypeOfAttribute RawName) × IsListedAttribute attribute

-- a layer without what holds of its parts
abbrev type_parts : layer.Type-F RawName ListedType ListedVariant ListedRecord ListedAttribute
    → layer.Type-F RawName («Type» RawName) (TypeVariant RawName) (RecordType RawName) (TypeOfAttribute RawName)
type_parts y = map-Type RawName ListedType ListedVariant ListedRecord ListedAttribute («Type» RawName) (TypeVariant RawName) (RecordType RawName)
    (TypeOfAttribute RawName) (λ e. e.0) (λ e. e.0) (λ e. e.0) (λ e. e.0) y

abbrev variant_parts : layer.TypeVariant-F RawName ListedType ListedVariant ListedRecord ListedAttribute
    → layer.TypeVariant-F RawName («Type» RawName) (TypeVariant RawName) (RecordType RawName) (TypeOfAttribute RawName)
variant_parts y = map-TypeVariant RawName ListedType ListedVariant ListedRecord ListedAttribute («Type» RawName) (TypeVariant RawName)
    (RecordType RawName) (TypeOfAttribute RawName) (λ e. e.0) (λ e. e.0) (λ e. e.0) (λ e. e.0) y

abbrev record_parts : layer.RecordType-F RawName ListedType ListedVariant ListedRecord ListedAttribute
    → layer.RecordType-F RawName («Type» RawName) (TypeVariant RawName) (RecordType RawName) (TypeOfAttribute RawName)
record_parts y = map-RecordType RawName ListedType ListedVariant ListedRecord ListedAttribute («Type» RawName) (TypeVariant RawName)
    (RecordType RawName) (TypeOfAttribute RawName) (λ e. e.0) (λ e. e.0) (λ e. e.0) (λ e. e.0) y

abbrev attribute_parts : layer.TypeOfAttribute-F RawName ListedType ListedVariant ListedRecord ListedAttribute
    → layer.TypeOfAttribute-F RawName («Type» RawName) (TypeVariant RawName) (RecordType RawName) (TypeOfAttribute RawName)
attribute_parts y = map-TypeOfAttribute RawName ListedType ListedVariant ListedRecord ListedAttribute («Type» RawName) (TypeVariant RawName)
    (RecordType RawName) (TypeOfAttribute RawName) (λ e. e.0) (λ e. e.0) (λ e. e.0) (λ e. e.0) y

-- what is listed of a layer, and what it is written as, over its parts
abbrev type_layer_marks : layer.Type-F RawName («Type» RawName) (TypeVariant RawName) (RecordType RawName) (TypeOfAttribute RawName) → Marks
type_layer_marks x = type_marks_step (map-Type RawName («Type» RawName) (TypeVariant RawName) (RecordType RawName) (TypeOfAttribute RawName)
    Marks MarksAt MarksAt Marks type_marks variant_marks record_marks attribute_marks x)

abbrev type_layer_expr : layer.Type-F RawName («Type» RawName) (TypeVariant RawName) (RecordType RawName) (TypeOfAttribute RawName) → Expr
type_layer_expr x = type_step RawName (raw_reference None) (map-Type RawName («Type» RawName) (TypeVariant RawName) (RecordType RawName)
    (TypeOfAttribute RawName) Expr Expr Expr (Bool × Expr) (raw_expr None) (raw_variant None) (raw_record None) (raw_attribute None) x)

abbrev variant_layer_marks : layer.TypeVariant-F RawName («Type» RawName) (TypeVariant RawName) (RecordType RawName) (TypeOfAttribute RawName) → MarksAt
variant_layer_marks x = variant_marks_step (map-TypeVariant RawName («Type» RawName) (TypeVariant RawName) (RecordType RawName)
    (TypeOfAttribute RawName) Marks MarksAt MarksAt Marks type_marks variant_marks record_marks attribute_marks x)

abbrev variant_layer_expr : layer.TypeVariant-F RawName («Type» RawName) (TypeVariant RawName) (RecordType RawName) (TypeOfAttribute RawName) → Expr
variant_layer_expr x = variant_step RawName (raw_reference None) (map-TypeVariant RawName («Type» RawName) (TypeVariant RawName)
    (RecordType RawName) (TypeOfAttribute RawName) Expr Expr Expr (Bool × Expr) (raw_expr None) (raw_variant None) (raw_record None)
    (raw_attribute None) x)

-- they agree
type_layers : (y : layer.Type-F RawName ListedType ListedVariant ListedRecord ListedAttribute)
    → bare (type_layer_marks (type_parts y)) ≡ marks_in (type_layer_expr (type_parts y))
type_layers (layer.Plain ty loc) = ty.1 loc
type_layers (layer.CommonTypeRef name loc) = refl

variant_layers : (y : layer.TypeVariant-F RawName ListedType ListedVariant ListedRecord ListedAttribute) (loc : Option Loc)
    → bare (variant_layer_marks (variant_parts y) loc) ≡ marks_in (variant_layer_expr (variant_parts y))
variant_layers layer.String loc = refl
variant_layers layer.Long loc = refl
variant_layers layer.Boolean loc = refl
variant_layers (layer.Set element) loc = element.value.1
variant_layers (layer.Record attributes) loc = attributes.1 loc
variant_layers (layer.Entity name) loc = refl
variant_layers (layer.EntityOrCommon name) loc = refl
variant_layers (layer.Extension name) loc = refl

-- so do entries, one after another
entries_listed : (ys : List (String Global × ListedAttribute))
    → bare (flat_map (λ (entry : String Global × Marks). entry.1)
    (map (λ (e : String Global × TypeOfAttribute RawName). (e.0, attribute_marks e.1)) (map (λ e. (e.0, e.1.0)) ys)))
    ≡ marks_in_members (members_from (map (λ (e : String Global × (Bool × Expr)). (string_bytes e.0, e.1))
    (map (λ (e : String Global × TypeOfAttribute RawName). (e.0, raw_attribute None e.1)) (map (λ e. (e.0, e.1.0)) ys))))
entries_listed [] = refl
entries_listed (y ∷ ys) =
    map-append (λ (it : Mark × Option Loc). it.0) (attribute_marks y.1.0)
    (flat_map (λ (entry : String Global × Marks). entry.1)
    (map (λ (e : String Global × TypeOfAttribute RawName). (e.0, attribute_marks e.1)) (map (λ e. (e.0, e.1.0)) ys)))
    ∙ (λ i. y.1.1 i ++ entries_listed ys i)

-- and a record type itself
opened : (additional : Bool) (loc : Option Loc) (rest : Marks)
    → bare (cond additional ((open_record, loc) ∷ []) [] ++ rest) ≡ if_open additional ++ bare rest
opened true loc rest = refl
opened false loc rest = refl

type_listed : (x : layer.Type-F RawName («Type» RawName) (TypeVariant RawName) (RecordType RawName) (TypeOfAttribute RawName))
    (y : layer.Type-F RawName ListedType ListedVariant ListedRecord ListedAttribute) → type_parts y ≡ x → IsListed (roll-Type RawName x)
type_listed x y is =
    subst (λ each. IsListed (roll-Type RawName each)) is
    (ap bare (fold-roll-Type RawName Marks MarksAt MarksAt Marks type_marks_step variant_marks_step record_marks_step attribute_marks_step (type_parts y))
    ∙ (type_layers y ∙ sym (ap marks_in (fold-roll-Type RawName Expr Expr Expr (Bool × Expr) (type_step RawName (raw_reference None))
    (variant_step RawName (raw_reference None)) (record_step RawName (raw_reference None)) (attribute_step RawName (raw_reference None)) (type_parts y)))))

variant_listed : (x : layer.TypeVariant-F RawName («Type» RawName) (TypeVariant RawName) (RecordType RawName) (TypeOfAttribute RawName))
    (y : layer.TypeVariant-F RawName ListedType ListedVariant ListedRecord ListedAttribute) → variant_parts y ≡ x
    → IsListedVariant (roll-TypeVariant RawName x)
variant_listed x y is =
    subst (λ each. IsListedVariant (roll-TypeVariant RawName each)) is
    (λ loc. ap (λ (listed : MarksAt). bare (listed loc)) (fold-roll-TypeVariant RawName Marks MarksAt MarksAt Marks type_marks_step variant_marks_step
    record_marks_step attribute_marks_step (variant_parts y))
    ∙ (variant_layers y loc ∙ sym (ap marks_in (fold-roll-TypeVariant RawName Expr Expr Expr (Bool × Expr) (type_step RawName (raw_reference None))
    (variant_step RawName (raw_reference None)) (record_step RawName (raw_reference None)) (attribute_step RawName (raw_reference None)) (variant_parts y)))))

record_listed : (x : layer.RecordType-F RawName («Type» RawName) (TypeVariant RawName) (RecordType RawName) (TypeOfAttribute RawName))
    (y : layer.RecordType-F RawName ListedType ListedVariant ListedRecord ListedAttribute) → record_parts y ≡ x
    → IsListedRecord (roll-RecordType RawName x)
record_listed x y is =
    subst (λ each. IsListedRecord (roll-RecordType RawName each)) is
    (λ loc. ap (λ (listed : MarksAt). bare (listed loc)) (fold-roll-RecordType RawName Marks MarksAt MarksAt Marks type_marks_step variant_marks_step
    record_marks_step attribute_marks_step (record_parts y))
    ∙ (opened y.additional_attributes loc (flat_map (λ (entry : String Global × Marks). entry.1)
    (map (λ (e : String Global × TypeOfAttribute RawName). (e.0, attribute_marks e.1)) (map (λ e. (e.0, e.1.0)) y.attributes.entries)))
    ∙ (ap (λ rest. if_open y.additional_attributes ++ rest) (entries_listed y.attributes.entries)
    ∙ sym (ap marks_in (fold-roll-RecordType RawName Expr Expr Expr (Bool × Expr) (type_step RawName (raw_reference None))
    (variant_step RawName (raw_reference None)) (record_step RawName (raw_reference None)) (attribute_step RawName (raw_reference None)) (record_parts y))))))

attribute_listed : (x : layer.TypeOfAttribute-F RawName («Type» RawName) (TypeVariant RawName) (RecordType RawName) (TypeOfAttribute RawName))
    (y : layer.TypeOfAttribute-F RawName ListedType ListedVariant ListedRecord ListedAttribute) → attribute_parts y ≡ x
    → IsListedAttribute (roll-TypeOfAttribute RawName x)
attribute_listed x y is =
    subst (λ each. IsListedAttribute (roll-TypeOfAttribute RawName each)) is
    (ap bare (fold-roll-TypeOfAttribute RawName Marks MarksAt MarksAt Marks type_marks_step variant_marks_step record_marks_step attribute_marks_step
    (attribute_parts y))
    ∙ (y.ty.1 ∙ sym (ap (λ (attribute : Bool × Expr). marks_in attribute.1) (fold-roll-TypeOfAttribute RawName Expr Expr Expr (Bool × Expr)
    (type_step RawName (raw_reference None)) (variant_step RawName (raw_reference None)) (record_step RawName (raw_reference None))
    (attribute_step RawName (raw_reference None)) (attribute_parts y)))))

-- of a type the marks that are listed are those in what it is written as
types_listed : (ty : «Type» RawName) → IsListed ty
types_listed ty =
    ind-Type RawName IsListed IsListedVariant IsListedRecord IsListedAttribute type_listed variant_listed record_listed attribute_listed ty

-- a mark is among two lists exactly where it is by one of two facts
module _ (xs ys : List Mark) (mark : Mark) (P Q : Type 0) (first : Contains xs mark ↔ P) (second : Contains ys mark ↔ Q) where
  either_in : Contains (xs ++ ys) mark ↔ (P ⊎ Q)
  either_in = (
    λ among. elim (Contains-append_cases xs ys mark among) [ inl here ↦ inl (first.0 here) | inr there ↦ inr (second.0 there) ],
    elim [
      | inl is ↦ Contains-append_left xs ys mark (first.1 is)
      | inr is ↦ Contains-append_right xs ys mark (second.1 is)
    ],
  )

-- nothing is among none
nothing_in : (mark : Mark) → Contains [] mark ↔ ⊥
nothing_in mark = (λ among. Contains-none mark among, λ none. absurd none)

-- the mark of an open record type is that of one that is open
open_is : (additional : Bool) → Contains (if_open additional) open_record ↔ IsTrue additional
open_is true = (λ among. refl, λ is. Contains-cons open_record [] open_record (inl refl))
open_is false = (λ among. absurd (Contains-none open_record among), λ is. absurd cc)

-- and no other mark is
no_other_open : (additional : Bool) (mark : Mark) → ¬ (open_record ≡ mark) → ¬ Contains (if_open additional) mark
no_other_open true mark other among = other (Contains-single open_record mark among)
no_other_open false mark other among = Contains-none mark among

mutual
  -- an open record stands in an expression where its mark does
  open_in : (expr : Expr) → Contains (marks_in expr) open_record ↔ HasOpenRecord expr
  open_in text_expr = nothing_in open_record
  open_in long_expr = nothing_in open_record
  open_in truth_expr = nothing_in open_record
  open_in (set_expr element) = open_in element
  open_in (record_expr members additional) =
      either_in (if_open additional) (marks_in_members members) open_record (IsTrue additional) (MembersHaveOpenRecord members)
      (open_is additional) (open_in_members members)
  open_in (named reference) = nothing_in open_record
  open_in (extension_expr name) =
      (λ among. let wrong : extension_type name ≡ open_record = Contains-single (extension_type name) open_record among in cc, λ none. absurd none)

  open_in_members : (members : Members) → Contains (marks_in_members members) open_record ↔ MembersHaveOpenRecord members
  open_in_members no_member = nothing_in open_record
  open_in_members (member name required expr rest) =
      either_in (marks_in expr) (marks_in_members rest) open_record (HasOpenRecord expr) (MembersHaveOpenRecord rest) (open_in expr) (open_in_members rest)

module _ (word : Text) where
  -- the mark that names the extension type
  abbrev it : Mark
  it = extension_type word

  -- a record type itself names none
  none_itself : (additional : Bool) → Contains (if_open additional) it ↔ ⊥
  none_itself additional = (λ among. no_other_open additional it (λ same. cc) among, λ none. absurd none)

  mutual
    -- an extension type stands in an expression where its mark does
    extension_in_expr : (expr : Expr) → Contains (marks_in expr) it ↔ MentionsExtension expr word
    extension_in_expr text_expr = nothing_in it
    extension_in_expr long_expr = nothing_in it
    extension_in_expr truth_expr = nothing_in it
    extension_in_expr (set_expr element) = extension_in_expr element
    extension_in_expr (record_expr members additional) =
        let both = either_in (if_open additional) (marks_in_members members) it ⊥ (MembersMentionExtension members word)
        (none_itself additional) (extension_in_members members) in (
          λ among. elim (both.0 among) [ inl none ↦ absurd none | inr mentioned ↦ mentioned ],
          λ mentioned. both.1 (inr mentioned),
        )
    extension_in_expr (named reference) = nothing_in it
    extension_in_expr (extension_expr name) = (
      λ among. let same : extension_type name ≡ extension_type word = Contains-single (extension_type name) it among in cc,
      λ same. Contains-cons (extension_type name) [] it (inl (ap extension_type same)),
    )

    extension_in_members : (members : Members) → Contains (marks_in_members members) it ↔ MembersMentionExtension members word
    extension_in_members no_member = nothing_in it
    extension_in_members (member name required expr rest) =
        either_in (marks_in expr) (marks_in_members rest) it (MentionsExtension expr word) (MembersMentionExtension rest word)
        (extension_in_expr expr) (extension_in_members rest)

-- no other marks stand in expressions
module _ (mark : Mark) (not_open : ¬ (open_record ≡ mark)) (no_extension : (name : Text) → ¬ (extension_type name ≡ mark)) where
  mutual
    no_other : (expr : Expr) → ¬ Contains (marks_in expr) mark
    no_other text_expr among = Contains-none mark among
    no_other long_expr among = Contains-none mark among
    no_other truth_expr among = Contains-none mark among
    no_other (set_expr element) among = no_other element among
    no_other (record_expr members additional) among = elim (Contains-append_cases (if_open additional) (marks_in_members members) mark among) [
      | inl here ↦ no_other_open additional mark not_open here
      | inr there ↦ no_other_in members there
    ]
    no_other (named reference) among = Contains-none mark among
    no_other (extension_expr name) among = no_extension name (Contains-single (extension_type name) mark among)

    no_other_in : (members : Members) → ¬ Contains (marks_in_members members) mark
    no_other_in no_member among = Contains-none mark among
    no_other_in (member name required expr rest) among = elim (Contains-append_cases (marks_in expr) (marks_in_members rest) mark among) [
      | inl here ↦ no_other expr here
      | inr there ↦ no_other_in rest there
    ]

-- a mark is among those of an expression exactly where it stands there
mentioned : (expr : Expr) (mark : Mark) → Contains (marks_in expr) mark ↔ IsMarkIn expr mark
mentioned expr open_record = open_in expr
mentioned expr (extension_type name) = extension_in_expr name expr
mentioned expr (common_type name) = (λ among. no_other (common_type name) (λ same. cc) (λ other same. cc) expr among, λ none. absurd none)
mentioned expr (entity_type name) = (λ among. no_other (entity_type name) (λ same. cc) (λ other same. cc) expr among, λ none. absurd none)
mentioned expr (action ty id has) = (λ among. no_other (action ty id has) (λ same. cc) (λ other same. cc) expr among, λ none. absurd none)

-- a mark is listed of a type exactly where it stands in what the type is written as
pub marks_mentioned : MarksAreMentioned
marks_mentioned ty mark = subst (λ all. Contains all mark ↔ IsMarkIn (raw_expr None ty) mark) (sym (types_listed ty)) (mentioned (raw_expr None ty) mark)
