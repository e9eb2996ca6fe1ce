-- What a bag owes to the steps that build its entity types and its actions.
use Rattle.std.proofs.Common.{◌≡◌, ◌⊎◌, List, [], ◌∷◌, Result, Ok, Err, IfOk, OnOk, map, ap, sym, ◌∙◌, refl, inl, inr, Contains}
use Rattle.cedar_ast.proofs.Basics.{Contains-single}
use Rattle.cedar_ast.proofs.Lists.{Contains-cons, Contains-preimage}
use Rattle.cedar_builder.specs.Words.{Bag, Expr, Extensions, Fault, HoldsJust, IsActionType, IsAtEntityTypePosition, IsCounted, IsExprFault, IsFault, IsReserved, IsTypeFault, IsUnresolved, Names, PlainName, PlainUid, Reference, action_not_defined, action_uids, declared_actions, defined_names, definitions, extension_types, open_record, out_of_memory, reserved_name, type_not_defined, unknown_extension_type}
use Rattle.cedar_elaboration.proofs.ScopeLemmas.{same_resolves}
use Rattle.cedar_schema_semantics.proofs.DeclarationLemmas.{action_declaration}
use Rattle.cedar_schema_semantics.proofs.ResolutionLemmas.{first_defined}

-- no action's uid has another type
pub action_type : (bag : Bag) (name : PlainName) → Contains (map (λ uid. uid.ty) (action_uids bag)) name → IsActionType name
action_type bag name among =
    let uid = Contains-preimage (λ (each : PlainUid). each.ty) (action_uids bag) name among in
    let it = Contains-preimage (λ each. each.0) (declared_actions bag) uid.0 uid.1 in
    let found = action_declaration bag it.0.0 it.0.1 it.1 in
    sym (ap (λ (each : PlainUid). each.ty.base) (found.3 ∙ it.2) ∙ ap (λ (each : PlainName). each.base) uid.2)

module _ (bag : Bag) (given : Extensions) (known : List PlainName) (all : known ≡ extension_types given)
    (unreserved : (name : PlainName) → Contains (definitions bag given).entities name → ¬ IsReserved name) where
  -- the refusal of an expression that counts is a fault of the bag
  pub expr_fault : (expr : Expr) (fault : Fault) → IsCounted bag expr → IsExprFault (definitions bag given) known expr fault
      → (fault ≡ out_of_memory) ⊎ IsFault bag given fault
  expr_fault expr open_record counts refused = inr (expr, counts, refused)
  expr_fault expr (type_not_defined references) counts refused = inr (
    refused.0,
    λ reference among. (inl (expr, counts, (refused.1 reference among).0), (refused.1 reference among).1),
  )
  expr_fault expr (unknown_extension_type name) counts refused =
      inr (expr, counts, refused.0, refused.1, λ among. refused.2 (rw all among))
  expr_fault expr (reserved_name name) counts refused = absurd (unreserved name refused.2.is_entity.1 refused.2.reserved)
  expr_fault expr out_of_memory counts refused = inl refl
  expr_fault expr _ counts refused = absurd refused

-- a reference that resolves to nothing is refused by itself
pub unresolved_fault : (names : Names) (reference : Reference) → IsUnresolved names reference → (fault : Fault)
    → fault ≡ type_not_defined (reference ∷ []) → IsTypeFault names reference fault
unresolved_fault names reference nothing fault is =
    rw is (
      (λ wrong. cc),
      λ other among. let here = Contains-single reference other among in (here, rw (← here) nothing),
    )

-- of a bag over whose names references are looked up
module _ (bag : Bag) (given : Extensions) (held : Names) (just : HoldsJust held (defined_names bag given))
    (unreserved : (name : PlainName) → Contains (definitions bag given).entities name → ¬ IsReserved name) where
  -- what resolves to nothing over the names that are held does so over those of the bag
  pub unresolved_in_bag : (reference : Reference) → IsUnresolved held reference → IsUnresolved (defined_names bag given) reference
  unresolved_in_bag reference nothing name among is_defined = nothing name among (elim is_defined [
    | inl common ↦ inl (common.0, (just.common name).1 common.1)
    | inr entity ↦ inr (entity.0, (just.entities name).1 entity.1)
  ])

  -- the refusal of a reference at the position of an entity type is a fault of the bag
  pub type_fault : (reference : Reference) → IsAtEntityTypePosition bag reference → (fault : Fault) → IsTypeFault held reference fault
      → (fault ≡ out_of_memory) ⊎ IsFault bag given fault
  type_fault reference placed (type_not_defined references) refused = inr (
    refused.0,
    λ other among.
        let found = refused.1 other among in
        rw (← found.0) (inr placed, unresolved_in_bag reference (rw (← found.0) at found.1)),
  )
  type_fault reference placed (action_not_defined []) refused = absurd (refused.0 refl)
  type_fault reference placed (action_not_defined (first ∷ rest)) refused =
      absurd (refused.1 first (Contains-cons first rest first (inl refl))).1
  type_fault reference placed (reserved_name name) (other, (same, is_entity), resolves, reserved) =
      let resolved = same_resolves held (defined_names bag given) just other name resolves in
      let defined = (first_defined (defined_names bag given) other.kind other.possibilities name resolved).1 in
      absurd (elim (rw is_entity at defined) [ inl common ↦ common.0 | inr entity ↦ unreserved name entity.1 reserved ])
  type_fault reference placed out_of_memory refused = inl refl
  type_fault reference placed _ refused = absurd refused

-- what follows of two promises of a value
pub if_ok_both : {T E : Type 0} (P Q R : T → Type 0) → ((value : T) → P value → Q value → R value) → (result : Result T E)
    → IfOk result P → IfOk result Q → IfOk result R
if_ok_both P Q R follows (Ok value) first second = follows value first second
if_ok_both P Q R follows (Err error) first second = tt

-- what follows of a promise of a value, whichever it is
pub on_ok_from : {T E : Type 0} (P : T → Type 0) (Q : Type 0) → ((value : T) → P value → Q) → (result : Result T E)
    → IfOk result P → OnOk result Q
on_ok_from P Q follows (Ok value) promised = follows value promised
on_ok_from P Q follows (Err error) promised = tt
