-- Keys that are references tie where they are those of the same fault.
use Rattle.std.proofs.Common.{◌≡◌, ◌↔◌, Bool, true, false, [], ◌∷◌, Option, Some, ap, refl, string_bytes}
use Rattle.std.specs.Ordering.{bool_cmp, ordering_then}
use Rattle.std.specs.declared.cmp.Ordering.{Ordering}
use Rattle.std.specs.declared.cmp.Ordering.TheVariants.{Equal}
use Rattle.cedar_ast.proofs.Names.{entity_type_ord-Equal, internal_name_ord-Equal}
use Rattle.cedar_ast.proofs.PlainNames.{ordering_then-Equal}
use Rattle.cedar_ast.proofs.Texts.{text_cmp-Equal}
use Rattle.cedar_ast.specs.Words.{PlainName, Text, name_of, type_name}
use Rattle.cedar_diagnosis.specs.ReferenceKeys.{key_kind, key_reference, names_tried, parent_told}
use Rattle.cedar_diagnosis.specs.contracts.parent_key.ParentKeyOrd.TheImpl as parent_ord
use Rattle.cedar_diagnosis.specs.contracts.reference_key.NamedKindOrd.TheImpl as kind_ord
use Rattle.cedar_diagnosis.specs.contracts.reference_key.ReferenceKeyOrd.TheImpl as key_ord
use Rattle.cedar_diagnosis.specs.contracts.type_pair.TypePairOrd.TheImpl as pair_ord
use Rattle.cedar_diagnosis.specs.declared.parent_key.ParentKey.{ParentKey}
use Rattle.cedar_diagnosis.specs.declared.reference_key.NamedKind.{NamedKind}
use Rattle.cedar_diagnosis.specs.declared.reference_key.NamedKind.TheVariants.{AnyType, CommonType, EntityType}
use Rattle.cedar_diagnosis.specs.declared.reference_key.ReferenceKey.{ReferenceKey}
use Rattle.cedar_diagnosis.specs.declared.type_pair.TypePair.{TypePair}
use Rattle.cedar_schema_ast.specs.Words.{Reference}
use Rattle.cedar_schema_semantics.specs.Words.{Fault, action_not_defined, alias_name, enumerated_below, type_not_defined}

-- truth values tie where they are the same
bool_tie : (a b : Bool) → bool_cmp a b ≡ Equal → a ≡ b
bool_tie true true e = refl
bool_tie true false e = cc
bool_tie false true e = cc
bool_tie false false e = refl

-- and so do kinds
kind_tie : (a b : NamedKind) → (kind_ord.ghosts).cmp a b ≡ Equal → a ≡ b
kind_tie CommonType CommonType e = refl
kind_tie CommonType EntityType e = cc
kind_tie CommonType AnyType e = cc
kind_tie EntityType CommonType e = cc
kind_tie EntityType EntityType e = refl
kind_tie EntityType AnyType e = cc
kind_tie AnyType CommonType e = cc
kind_tie AnyType EntityType e = cc
kind_tie AnyType AnyType e = refl

-- keys that tie are those of the same reference
tied : (a b : ReferenceKey) → (key_ord.ghosts).cmp a b ≡ Equal → key_reference a ≡ key_reference b
tied a b e =
    let first = ordering_then-Equal _ _ e in
    let rest = ordering_then-Equal _ _ first.1 in
    let names = (internal_name_ord-Equal a.first b.first).0 first.0 in
    let within = bool_tie a.is_within b.is_within rest.0 in
    let kinds = kind_tie a.kind b.kind rest.1 in
    λ i. record { possibilities = names_tried (within i) (names i); kind = key_kind (kinds i) }

-- the same truth values tie
bool_same : (a b : Bool) → a ≡ b → bool_cmp a b ≡ Equal
bool_same true true e = refl
bool_same true false e = cc
bool_same false true e = cc
bool_same false false e = refl

-- the same kinds tie
kind_same : (a b : NamedKind) → key_kind a ≡ key_kind b → (kind_ord.ghosts).cmp a b ≡ Equal
kind_same CommonType CommonType e = refl
kind_same CommonType EntityType e = cc
kind_same CommonType AnyType e = cc
kind_same EntityType CommonType e = cc
kind_same EntityType EntityType e = refl
kind_same EntityType AnyType e = cc
kind_same AnyType CommonType e = cc
kind_same AnyType EntityType e = cc
kind_same AnyType AnyType e = refl

-- the same names are tried where the first is the same and the same are tried after it
tried_same : (w v : Bool) (a b : PlainName) → names_tried w a ≡ names_tried v b → (a ≡ b) × (w ≡ v)
tried_same true true a b e = let same : a ≡ b = cc in (same, refl)
tried_same true false a b e =
    let wrong : alias_name a.base ∷ [] ≡ [] = cc in cc
tried_same false true a b e =
    let wrong : [] ≡ alias_name b.base ∷ [] = cc in cc
tried_same false false a b e = let same : a ≡ b = cc in (same, refl)

-- two orders that tie tie in turn
both_tie : (r s : Ordering) → r ≡ Equal → s ≡ Equal → ordering_then r s ≡ Equal
both_tie r s one other = rw one other

-- keys of the same reference tie
untied : (a b : ReferenceKey) → key_reference a ≡ key_reference b → (key_ord.ghosts).cmp a b ≡ Equal
untied a b e =
    let names = tried_same a.is_within b.is_within (name_of a.first) (name_of b.first) (ap (λ (it : Reference). it.possibilities) e) in
    both_tie _ _ ((internal_name_ord-Equal a.first b.first).1 names.0)
    (both_tie _ _ (bool_same a.is_within b.is_within names.1) (kind_same a.kind b.kind (ap (λ (it : Reference). it.kind) e)))

-- keys tie where they are those of the same undefined reference
pub undefined_types_tie : (a b : ReferenceKey)
    → ((key_ord.ghosts).cmp a b ≡ Equal) ↔ (type_not_defined (key_reference a ∷ []) ≡ type_not_defined (key_reference b ∷ []))
undefined_types_tie a b = (
  λ e. ap (λ reference. type_not_defined (reference ∷ [])) (tied a b e),
  λ e. let same : key_reference a ≡ key_reference b = cc in untied a b same,
)

-- the same is carried by what is the same
carried_same : (a b : Reference) → Some a ≡ Some b → a ≡ b
carried_same a b e = cc

-- keys tie where they are those of the same parent of an action
pub undefined_parents_tie : (a b : ParentKey) → ((parent_ord.ghosts).cmp a b ≡ Equal) ↔ (parent_told a ≡ parent_told b)
undefined_parents_tie a b = (
  λ e.
      let ties = ordering_then-Equal _ _ e in
      let ids = (text_cmp-Equal (string_bytes a.id) (string_bytes b.id)).0 ties.1 in
      let references = tied a.reference b.reference ties.0 in
      λ i. action_not_defined ((ids i, Some (references i)) ∷ []),
  λ e.
      let carried : (string_bytes a.id, Some (key_reference a.reference)) ≡ (string_bytes b.id, Some (key_reference b.reference)) = cc in
      let ids = ap (λ (it : Text × Option Reference). it.0) carried in
      let references = carried_same _ _ (ap (λ (it : Text × Option Reference). it.1) carried) in
      both_tie _ _ (untied a.reference b.reference references) ((text_cmp-Equal (string_bytes a.id) (string_bytes b.id)).1 ids),
)

-- the fault that an enumerated entity type with a parent is
abbrev pub below_told : TypePair → Fault
below_told key = enumerated_below (type_name key.lower) (type_name key.upper)

-- pairs of entity types tie where they are those of the same fault
pub enumerated_below_tie : (a b : TypePair) → ((pair_ord.ghosts).cmp a b ≡ Equal) ↔ (below_told a ≡ below_told b)
enumerated_below_tie a b = (
  λ e.
      let ties = ordering_then-Equal _ _ e in
      let lower = (entity_type_ord-Equal a.lower b.lower).0 ties.0 in
      let upper = (entity_type_ord-Equal a.upper b.upper).0 ties.1 in
      λ i. enumerated_below (lower i) (upper i),
  λ e.
      let lower : type_name a.lower ≡ type_name b.lower = cc in
      let upper : type_name a.upper ≡ type_name b.upper = cc in
      both_tie _ _ ((entity_type_ord-Equal a.lower b.lower).1 lower) ((entity_type_ord-Equal a.upper b.upper).1 upper),
)
