-- References to what is known.
use Rattle.std.proofs.Common.{◌≡◌, ◌⊎◌, List, [], ◌∷◌, map, subst, refl, inl, inr, Contains, Result, Ok, Err, IfErr, IfOk, OnOk}
use Rattle.cedar_ast.proofs.Basics.{Contains-single}
use Rattle.cedar_ast.proofs.Lists.{Contains-preimage}
use Rattle.cedar_elaboration.specs.Words.{Covers, CoversExtensions, Defined, ElaboratesAs, ElaboratesTo, Expr, Fault, Fields, HoldsJust, IsCommon, IsDefined, IsEntity, IsExprFault, IsElaborationFault, IsReserved, IsReservedEntity, IsUnresolved, MayNameCommon, Members, MembersElaborateTo, MembersRefer, Names, PlainName, Reference, Refers, ResolvesEach, ResolvesTo, Text, Ty, TypeScope, as_common, as_entity, as_extension, as_member, as_no_member, as_record, as_set, elaborated_types, extension_expr, extension_name, extension_of, extensions_in_scope, fault_of, held_names, named, names_of, out_of_memory, reserved_name, set_expr, set_of, ty_of, type_not_defined, union_of, unknown_extension_type}
use Rattle.cedar_schema_semantics.proofs.ResolutionLemmas.{IsFirst-like, first_defined}
use Rattle.cedar_schema_semantics.specs.declared.schema_error.SchemaError.{SchemaError}
use Rattle.cedar_types.specs.declared.types.Type.{«Type»}

-- what is known for an expression is known for its parts
pub Covers-part : (defined : Defined) (scope : TypeScope) (whole part : Expr)
    → ((reference : Reference) → Refers part reference → Refers whole reference)
    → Covers defined scope whole → Covers defined scope part
Covers-part defined scope whole part refers knows = record {
  names = knows.names;
  elaborated = knows.elaborated;
  referred = λ reference in_part. knows.referred reference (refers reference in_part);
}

-- names that are just others resolve a reference alike
pub same_resolves : (held names : Names) → HoldsJust held names → (reference : Reference) (name : PlainName)
    → ResolvesTo held reference name → ResolvesTo names reference name
same_resolves held names just reference name =
    IsFirst-like (IsDefined held reference.kind) (IsDefined names reference.kind)
    (λ each. elim [
      | inl common ↦ inl (common.0, (just.common each).0 common.1)
      | inr entity ↦ inr (entity.0, (just.entities each).0 entity.1)
    ])
    (λ each. elim [
      | inl common ↦ inl (common.0, (just.common each).1 common.1)
      | inr entity ↦ inr (entity.0, (just.entities each).1 entity.1)
    ])
    reference.possibilities name

module _ (defined : Defined) (scope : TypeScope) (reference : Reference) (knows : Covers defined scope (named reference)) where
  -- a reference resolves over what is defined as over the names that are in scope
  resolves : (name : PlainName) → ResolvesTo (held_names scope.defs.now) reference name → ResolvesTo (names_of defined) reference name
  resolves name = same_resolves (held_names scope.defs.now) (names_of defined) knows.names reference name

  -- a reference to a common type is elaborated as what stands under the name
  pub common_elaborated : (name : PlainName) (ty : Ty) → ResolvesTo (held_names scope.defs.now) reference name
      → MayNameCommon reference.kind → Contains (elaborated_types scope.common.now) (name, ty)
      → ElaboratesTo defined (named reference) ty
  common_elaborated name ty resolved may among =
      let it = knows.elaborated name ty among in
      as_common reference name it.0 (resolves name resolved) (may, it.1) it.2

  module _ (name : PlainName) (resolved : ResolvesTo (held_names scope.defs.now) reference name)
      (absent : MayNameCommon reference.kind → ¬ Contains (map (λ it. it.0) (elaborated_types scope.common.now)) name) where
    -- where nothing stands under the name, it is that of no common type which the position permits
    pub no_common : (body : Expr) → ¬ IsCommon defined reference.kind name body
    no_common body is_common =
        absent is_common.0 (knows.referred reference refl name body (resolves name resolved) is_common)

    -- so it is that of an entity type
    pub is_entity : IsEntity (names_of defined) reference.kind name
    is_entity = elim (first_defined (names_of defined) reference.kind reference.possibilities name (resolves name resolved)).1 [
      | inl common ↦
          let it = Contains-preimage (λ each. each.0) defined.common name common.1 in
          let Defines : PlainName → Type 0 = λ each. Contains defined.common (each, it.0.1) in
          absurd (no_common it.0.1 (common.0, subst Defines it.2 it.1))
      | inr entity ↦ entity
    ]

    -- and is elaborated as the type of its entities
    pub entity_elaborated : ElaboratesTo defined (named reference) (union_of (name ∷ []))
    entity_elaborated = as_entity reference name (resolves name resolved) is_entity no_common

    -- the refusal of a reserved entity type is that of the reference to it
    pub fault_of_entity : (fault : Fault) → (fault ≡ out_of_memory) ⊎ ((fault ≡ reserved_name name) × IsReserved name)
        → IsExprFault defined (extensions_in_scope scope) (named reference) fault
    fault_of_entity fault at_fault = elim at_fault [
      | inl wanting ↦ rw wanting tt
      | inr it ↦
          let reserved : IsReservedEntity defined reference name = record {
            resolves = resolves name resolved;
            is_entity = is_entity;
            no_common = no_common;
            reserved = it.1;
          } in
          rw it.0 (reference, refl, reserved)
    ]

  -- the refusal of a reference that resolves to nothing
  pub fault_of_reference : IsUnresolved (held_names scope.defs.now) reference
      → (fault : Fault) → fault ≡ type_not_defined (reference ∷ [])
      → IsExprFault defined (extensions_in_scope scope) (named reference) fault
  fault_of_reference nothing fault is =
      rw is (
        λ same. cc,
        λ other among. let here = Contains-single reference other among in (here, rw (← here) unresolved),
      )
    where
      unresolved : IsUnresolved (names_of defined) reference
      unresolved name among is_defined = nothing name among (elim is_defined [
        | inl common ↦ inl (common.0, (knows.names.common name).1 common.1)
        | inr entity ↦ inr (entity.0, (knows.names.entities name).1 entity.1)
      ])

-- of a reference that resolves to a name under which no common type stands
module _ (scope : TypeScope) (reference : Reference) (name : PlainName)
    (resolved : ResolvesTo (held_names scope.defs.now) reference name)
    (absent : MayNameCommon reference.kind → ¬ Contains (map (λ it. it.0) (elaborated_types scope.common.now)) name) where
  -- an answer that gives the type of its entities elaborates it
  pub entity_answers : {E : Type 0} (answer : Result «Type» E) → IfOk answer (λ ty. ty_of ty ≡ union_of (name ∷ []))
      → IfOk answer (λ elaborated. ElaboratesAs scope (named reference) (ty_of elaborated))
  entity_answers (Ok ty) is = λ defined knows. rw is (entity_elaborated defined scope reference knows name resolved absent)
  entity_answers (Err error) is = tt

  -- one that refuses it as reserved refuses the reference
  pub entity_refuses : {X : Type 0} (answer : Result X SchemaError)
      → IfErr answer (λ error. (fault_of error ≡ out_of_memory) ⊎ ((fault_of error ≡ reserved_name name) × IsReserved name))
      → IfErr answer (λ error. IsElaborationFault scope (named reference) (fault_of error))
  entity_refuses (Ok it) at_fault = tt
  entity_refuses (Err error) at_fault = record {
    each = λ defined knows. fault_of_entity defined scope reference knows name resolved absent (fault_of error) at_fault;
  }

-- the name without a path and with the base name is that of the extension type
pub extension_name-same : (name : PlainName) (word : Text) → name.base ≡ word → name.path ≡ [] → name ≡ extension_name word
extension_name-same name word base path i = record { base = base i; path = path i }

-- what holds of an extension type holds of a name that is the same
pub fault_of_extension : (scope : TypeScope) (word : Text) (fault : Fault)
    → (fault ≡ out_of_memory) ⊎ ((fault ≡ unknown_extension_type (extension_name word))
    × ¬ Contains (extensions_in_scope scope) (extension_name word))
    → IsElaborationFault scope (extension_expr word) fault
fault_of_extension scope word fault at_fault = record {
  each = λ defined knows. elim at_fault [ inl wanting ↦ rw wanting tt | inr it ↦ rw it.0 (refl, refl, it.1) ];
}

mutual
  -- each reference of an expression that is elaborated resolves
  pub resolves_each : (defined : Defined) {expr : Expr} {ty : Ty} → ElaboratesTo defined expr ty → (reference : Reference)
      → Refers expr reference → (name : PlainName) × ResolvesTo (names_of defined) reference name
  resolves_each defined (as_set element) reference refers = resolves_each defined element reference refers
  resolves_each defined (as_record members) reference refers = members_resolve defined members reference refers
  resolves_each defined (as_entity other name resolves is_entity none) reference refers =
      (name, rw refers at resolves)
  resolves_each defined (as_common other name body resolves is_common elaborated) reference refers =
      (name, rw refers at resolves)
  resolves_each defined _ reference refers = absurd refers

  -- the same of the attributes of a record
  members_resolve : (defined : Defined) {members : Members} {fields : Fields} → MembersElaborateTo defined members fields
      → (reference : Reference) → MembersRefer members reference
      → (name : PlainName) × ResolvesTo (names_of defined) reference name
  members_resolve defined as_no_member reference refers = absurd refers
  members_resolve defined (as_member first rest) reference refers = elim refers [
    | inl here ↦ resolves_each defined first reference here
    | inr there ↦ members_resolve defined rest reference there
  ]

-- what is elaborated refers to nothing that doesn't resolve
pub resolved_if_elaborated : (scope : TypeScope) (expr : Expr) {E : Type 0} (result : Result «Type» E)
    → IfOk result (λ elaborated. ElaboratesAs scope expr (ty_of elaborated)) → OnOk result (ResolvesEach scope expr)
resolved_if_elaborated scope expr (Ok elaborated) is_elaborated = λ defined knows. resolves_each defined (is_elaborated defined knows)
resolved_if_elaborated scope expr (Err error) is_elaborated = tt

-- an expression that is another is elaborated as what the other is
pub ElaboratesTo-as : (defined : Defined) {expr other : Expr} {ty ty' : Ty} → expr ≡ other → ty ≡ ty'
    → ElaboratesTo defined other ty' → ElaboratesTo defined expr ty
ElaboratesTo-as defined {expr = expr} {ty' = ty'} same same' elaborated =
    rw (same', same) elaborated

-- a set type is elaborated as the type of sets of what its elements are
pub set_elaborated : (scope : TypeScope) (expr element : Expr) (ty ty' : Ty) → expr ≡ set_expr element → ty ≡ set_of ty'
    → ElaboratesAs scope element ty' → ElaboratesAs scope expr ty
set_elaborated scope expr element ty ty' same same' elaborated defined knows =
    let whole : Covers defined scope (set_expr element) = rw same at knows in
    ElaboratesTo-as defined same same'
    (as_set (elaborated defined (Covers-part defined scope (set_expr element) element (λ reference refers. refers) whole)))

-- the refusal of the elements of a set is that of the set
fault_in_set : (defined : Defined) (extensions : List PlainName) (element : Expr) (fault : Fault)
    → IsExprFault defined extensions element fault → IsExprFault defined extensions (set_expr element) fault
fault_in_set defined extensions element fault at_fault = at_fault

-- the refusal of the elements of a set is that of an expression that is the set
pub fault_of_set : (scope : TypeScope) (expr element : Expr) (fault : Fault) → expr ≡ set_expr element
    → IsElaborationFault scope element fault → IsElaborationFault scope expr fault
fault_of_set scope expr element fault same at_fault = record {
  each = λ defined knows. let whole : Covers defined scope (set_expr element) = rw same at knows in
      rw same (fault_in_set defined (extensions_in_scope scope) element fault
      (at_fault.each defined (Covers-part defined scope (set_expr element) element (λ reference refers. refers) whole)));
}

-- an extension type is elaborated as itself
pub extension_elaborated : (scope : TypeScope) (expr : Expr) (word : Text) {E : Type 0} (result : Result «Type» E)
    → expr ≡ extension_expr word → IfOk result (λ ty. ty_of ty ≡ extension_of (extension_name word))
    → IfOk result (λ elaborated. ElaboratesAs scope expr (ty_of elaborated))
extension_elaborated scope expr word (Ok elaborated) same is_extension = λ defined knows. ElaboratesTo-as defined same is_extension (as_extension word)
extension_elaborated scope expr word (Err error) same is_extension = tt

-- an expression that is another is elaborated, over a scope, as what the other is
pub elaborates_as : (scope : TypeScope) {expr other : Expr} (ty : Ty) → expr ≡ other → ElaboratesAs scope other ty → ElaboratesAs scope expr ty
elaborates_as scope ty same elaborated = rw same elaborated

-- its extension types are known where those of the other are
pub extensions_as : (scope : TypeScope) {expr other : Expr} → expr ≡ other → CoversExtensions scope other → CoversExtensions scope expr
extensions_as scope same known = rw same known

-- where memory runs out, whatever is elaborated is refused
pub memory_refused : (scope : TypeScope) (expr : Expr) → IsElaborationFault scope expr out_of_memory
memory_refused scope expr = record { each = λ defined knows. tt }
