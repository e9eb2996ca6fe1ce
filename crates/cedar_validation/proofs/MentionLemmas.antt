-- What types name: known, or why they are refused.
use Rattle.std.proofs.Common.{◌≡◌, ◌∙◌, ◌⊎◌, Some, refl, inl, inr, subst, sym, Contains, List}
use Rattle.cedar_validation.specs.Words.{ActionKind, ClosedAttributes, EntityTypeKind, Fault, IsContextOf, IsKnownThroughout, IsTypeOfKind, IsUnknownIn, Known, Knows, KnowsExtension, PlainName, Ty, defined_action, enumerated_kind, extension_of, external_action, external_kind, kind_context, kind_fields, kind_tags, out_of_memory, record_of, standard_kind, union_of, unknown_extension_type}

-- a union of known entity types is known throughout
pub union_known : (known : Known) (ty : Ty) (names : List PlainName) → ty ≡ union_of names
    → ((name : PlainName) → Contains names name → Knows known name) → IsKnownThroughout known ty
union_known known ty names is each =
    let P : Ty → Type 0 = IsKnownThroughout known in subst P (sym is) (each, λ name none. absurd none)

-- an extension type that isn't known is why its type is refused
pub extension_fault : (known : Known) (ty : Ty) (name : PlainName) (fault : Fault) → ty ≡ extension_of name
    → (fault ≡ out_of_memory) ⊎ ((fault ≡ unknown_extension_type name) × ¬ KnowsExtension known name) → IsUnknownIn known ty fault
extension_fault known ty name fault is why =
    let P : Ty → Type 0 = λ it. IsUnknownIn known it fault in
    subst P (sym is) (elim why [ inl wanting ↦ inl wanting | inr of ↦ inr (inr (name, of.0, refl, of.1)) ])

-- where the attributes and the tags of a kind are known throughout, all its types are
pub kind_known : (known : Known) (kind : EntityTypeKind) → IsKnownThroughout known (record_of (kind_fields kind) ClosedAttributes)
    → ((tags : Ty) → kind_tags kind ≡ Some tags → IsKnownThroughout known tags) → (of : Ty) → IsTypeOfKind kind of
    → IsKnownThroughout known of
kind_known known (standard_kind fields openness tags) attributes each of either =
    let P : Ty → Type 0 = IsKnownThroughout known in
    elim either [ inl is ↦ subst P (sym is) attributes | inr is ↦ each of is ]
kind_known known _ attributes each of either = absurd either

-- why the attributes of a kind are refused is why a type of it is
pub attributes_fault : (known : Known) (kind : EntityTypeKind) (fault : Fault)
    → IsUnknownIn known (record_of (kind_fields kind) ClosedAttributes) fault
    → (fault ≡ out_of_memory) ⊎ ((of : Ty) × IsTypeOfKind kind of × IsUnknownIn known of fault)
attributes_fault known (standard_kind fields openness tags) fault why = inr (record_of fields openness, inl refl, why)
attributes_fault known (enumerated_kind choices) fault why =
    elim why [ inl wanting ↦ inl wanting | inr one ↦ elim one [ inl of ↦ absurd of.2 | inr of ↦ absurd of.2 ] ]
attributes_fault known external_kind fault why =
    elim why [ inl wanting ↦ inl wanting | inr one ↦ elim one [ inl of ↦ absurd of.2 | inr of ↦ absurd of.2 ] ]

-- the type of the tags of a kind is one of its types
pub tags_of_kind : (kind : EntityTypeKind) (tags : Ty) → kind_tags kind ≡ Some tags → IsTypeOfKind kind tags
tags_of_kind (standard_kind fields openness declared) tags is = inr is
tags_of_kind (enumerated_kind choices) tags is = cc
tags_of_kind external_kind tags is = cc

-- the context of a kind is its only one
pub context_is : (kind : ActionKind) (context of : Ty) → Some context ≡ kind_context kind → IsContextOf kind of → context ≡ of
context_is (defined_action principals resources declared) context of is same = let e : context ≡ declared = cc in e ∙ same
context_is external_action context of is same = absurd same

pub context_of : (kind : ActionKind) (context : Ty) → Some context ≡ kind_context kind → IsContextOf kind context
context_of (defined_action principals resources declared) context is = cc
context_of external_action context is = cc
