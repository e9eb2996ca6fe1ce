-- Enumerated entity types with parents are faults, and are found.
use Rattle.std.proofs.Common.{◌≡◌, List, [], ◌∷◌, Result, Ok, Err, OnOk, Contains, map, ap, sym, ◌∙◌, subst, refl, inl}
use Rattle.cedar_ast.proofs.Basics.{Contains-single}
use Rattle.cedar_ast.proofs.Lists.{Contains-cons}
use Rattle.cedar_ast.specs.Words.{IsReserved, PlainName, Text}
use Rattle.cedar_ast.specs.declared.extension.Extensions.{Extensions}
use Rattle.cedar_diagnosis.proofs.AddingLemmas.{adds_like, members_give, members_of}
use Rattle.cedar_diagnosis.proofs.KindLemmas.{MayTell, tells_kind}
use Rattle.cedar_diagnosis.proofs.NameLemmas.{named_one_of, named_only}
use Rattle.cedar_diagnosis.proofs.ReferringKinds.{resolves_like}
use Rattle.cedar_diagnosis.proofs.TogetherLemmas.{TellsAlso}
use Rattle.cedar_diagnosis.specs.Adding.{Adds, SomeGives, TellsJust}
use Rattle.cedar_diagnosis.specs.Diagnosis.{IsTold}
use Rattle.cedar_diagnosis.specs.Finding.{FindsEnumeratedBelow, IsBelow, IsEnumeratedIn, IsEnumeratedName, IsExternalIn}
use Rattle.cedar_diagnosis.specs.Kinds as kind
use Rattle.cedar_diagnosis.specs.Kinds.{kind_of}
use Rattle.cedar_diagnosis.specs.Names.{entity_names_in}
use Rattle.cedar_name_resolution.specs.Words.{HoldsJust}
use Rattle.cedar_schema_ast.specs.Words.{Body, Declaration, EntityBody, Reference, action, common_type, entity_type, enumerated, external, standard}
use Rattle.cedar_schema_semantics.proofs.DeclarationLemmas.{declares_entity, entity_declaration}
use Rattle.cedar_schema_semantics.proofs.ResolutionLemmas.{IsFirst-same}
use Rattle.cedar_schema_semantics.specs.Words.{Bag, Fault, IsAtEntityTypePosition, IsDefined, IsEntityTypePosition, IsFault, Names, ResolvesTo, declared_entities, declared_name, defined_names, entity_in, enumerated_below}

-- what is told of the name that a reference has is told of the reference
pub below_named : {E : Type 0} (result : Result Unit E) (names : Names) (reference : Reference) (lower name : PlainName) (before after : List Fault)
    → ResolvesTo names reference name
    → OnOk result (Adds (λ fault. (¬ IsReserved name) × (enumerated_below lower name ≡ fault)) before after)
    → OnOk result (Adds (IsBelow names lower reference) before after)
below_named (Ok x) names reference lower name before after resolves adds =
    adds_like (λ fault. (¬ IsReserved name) × (enumerated_below lower name ≡ fault)) (IsBelow names lower reference) before after
    (λ fault tells. (name, resolves, tells.0, tells.1))
    (λ fault found.
    let same : name ≡ found.0 = IsFirst-same (IsDefined names reference.kind) reference.possibilities name found.0 resolves found.1 in
    ((λ reserved. found.2 (subst IsReserved same reserved)), ap (enumerated_below lower) same ∙ found.3)) adds
below_named (Err x) names reference lower name before after resolves adds = tt

-- what the references at the positions of an external declaration give is found in it
pub found_below : {E : Type 0} (result : Result Unit E) (names : Names) (types : List PlainName) (it : Declaration) (lower : PlainName)
    (references : List Reference) (before after : List Fault) → IsExternalIn it.body → lower ∷ [] ≡ entity_names_in it → Contains types lower
    → Adds (IsEntityTypePosition it.body) [] references → OnOk result (Adds (SomeGives (IsBelow names lower) references) before after)
    → OnOk result (Adds (FindsEnumeratedBelow names types it) before after)
found_below {E = E} (Ok x) names types it lower references before after is_external one among members adds =
    let Given : Fault → Type 0 = λ fault. (reference : Reference) × IsEntityTypePosition it.body reference × IsBelow names lower reference fault in
    adds_like Given (FindsEnumeratedBelow names types it) before after
    (λ fault given. (lower, is_external, named_one_of lower (entity_names_in it) one lower refl, among, given.0, given.1, given.2))
    (λ fault found.
    let same : found.0 ≡ lower = sym (named_only lower (entity_names_in it) one found.0 found.2) in
    (found.4, found.5, subst (λ each. IsBelow names each found.4 fault) same found.6))
    (given_by {F = E} (Ok x) names it lower references before after members adds)
  where
    given_by : {F : Type 0} (result : Result Unit F) (names : Names) (it : Declaration) (lower : PlainName) (references : List Reference)
        (before after : List Fault) → Adds (IsEntityTypePosition it.body) [] references
        → OnOk result (Adds (SomeGives (IsBelow names lower) references) before after)
        → OnOk result (Adds (λ fault. (reference : Reference) × IsEntityTypePosition it.body reference × IsBelow names lower reference fault) before after)
    given_by result names it lower references before after members adds =
        members_give result (IsBelow names lower) (IsEntityTypePosition it.body) references before after members adds
found_below (Err x) names types it lower references before after is_external one among members adds = tt

-- the names that the body of a declaration gives to entity types
abbrev names_in : PlainName → Body → List PlainName
names_in own body = map (λ (each : PlainName × EntityBody). each.0) (entity_in own body)

-- the name under which an entity type is declared
has_name : (it : Declaration) (body : EntityBody) (name : PlainName) → it.body ≡ entity_type body → declared_name it ≡ name
    → Contains (entity_names_in it) name
has_name it body name is named =
    subst (λ each. Contains (names_in (declared_name it) each) name) (sym is) (Contains-cons (declared_name it) [] name (inl named))

-- an enumerated entity type that is declared
enumerated_in : (it : Declaration) (name : PlainName) → IsEnumeratedIn it.body → Contains (entity_names_in it) name
    → (choices : List Text) × (it.body ≡ entity_type (enumerated choices)) × (declared_name it ≡ name)
enumerated_in it name is among = of_body it.body (declared_name it) is among where
  of_body : (body : Body) (own : PlainName) → IsEnumeratedIn body → Contains (names_in own body) name
      → (choices : List Text) × (body ≡ entity_type (enumerated choices)) × (own ≡ name)
  of_body (entity_type (enumerated choices)) own is among = (choices, refl, Contains-single own name among)
  of_body (entity_type (standard parents shape tags)) own is among = absurd is
  of_body (entity_type (external parents)) own is among = absurd is
  of_body (common_type definition) own is among = absurd is
  of_body (action body) own is among = absurd is

-- an external one
external_in : (it : Declaration) (name : PlainName) → IsExternalIn it.body → Contains (entity_names_in it) name
    → (parents : List Reference) × (it.body ≡ entity_type (external parents)) × (declared_name it ≡ name)
external_in it name is among = of_body it.body (declared_name it) is among where
  of_body : (body : Body) (own : PlainName) → IsExternalIn body → Contains (names_in own body) name
      → (parents : List Reference) × (body ≡ entity_type (external parents)) × (own ≡ name)
  of_body (entity_type (external parents)) own is among = (parents, refl, Contains-single own name among)
  of_body (entity_type (standard parents shape tags)) own is among = absurd is
  of_body (entity_type (enumerated choices)) own is among = absurd is
  of_body (common_type definition) own is among = absurd is
  of_body (action body) own is among = absurd is

module _ (bag : Bag) (extensions : Extensions) (names : Names) (types : List PlainName) (same : HoldsJust names (defined_names bag extensions))
    (are : Adds (SomeGives IsEnumeratedName bag) [] types)
    (unreserved : (reference : Reference) (name : PlainName) → IsAtEntityTypePosition bag reference
    → ResolvesTo (defined_names bag extensions) reference name → ¬ IsReserved name) where
  -- an enumerated entity type with a parent is a fault
  below_sound : (fault : Fault) → SomeGives (FindsEnumeratedBelow names types) bag fault → MayTell bag extensions kind.enumerated_below fault
  below_sound fault some =
      let it = some.0 in
      let found = some.2 in
      let lower = found.0 in
      let elsewhere = (members_of (SomeGives IsEnumeratedName bag) types are lower).0 found.3 in
      let listed = enumerated_in elsewhere.0 lower elsewhere.2.0 elsewhere.2.1 in
      let own = external_in it lower found.1 found.2 in
      let Declared : EntityBody → PlainName → Type 0 = λ body name. Contains (declared_entities bag) (name, body) in
      let is_enumerated : Declared (enumerated listed.0) lower =
      subst (Declared (enumerated listed.0)) listed.2 (declares_entity bag elsewhere.0 (enumerated listed.0) elsewhere.1 listed.1) in
      let is_external : Declared (external own.0) lower = subst (Declared (external own.0)) own.2 (declares_entity bag it (external own.0) some.1 own.1) in
      let stands : Contains own.0 found.4 = subst (λ body. IsEntityTypePosition body found.4) own.1 found.5 in
      subst (MayTell bag extensions kind.enumerated_below) found.6.3
      (refl, (listed.0, own.0, found.4, is_enumerated, is_external, stands, (resolves_like bag extensions names same found.4 found.6.0).0 found.6.1), tt)

  below_complete : (more : List Fault) → ((fault : Fault) → SomeGives (FindsEnumeratedBelow names types) bag fault → Contains more fault)
      → (fault : Fault) → kind_of fault ≡ kind.enumerated_below → IsFault bag extensions fault → IsTold more fault
  below_complete more has (enumerated_below lower upper) is fault =
      let listed = entity_declaration bag lower (enumerated fault.0) fault.3 in
      let own = entity_declaration bag lower (external fault.1) fault.4 in
      let stands : IsEntityTypePosition own.0.body fault.2 = subst (λ body. IsEntityTypePosition body fault.2) (sym own.2) fault.5 in
      let is_enumerated = (members_of (SomeGives IsEnumeratedName bag) types are lower).1
      (listed.0, listed.1, (subst IsEnumeratedIn (sym listed.2) tt, has_name listed.0 (enumerated fault.0) lower listed.2 listed.3)) in
      has (enumerated_below lower upper) (
        own.0,
        own.1,
        (
          lower,
          subst IsExternalIn (sym own.2) tt,
          has_name own.0 (external fault.1) lower own.2 own.3,
          is_enumerated,
          fault.2,
          stands,
          (upper, (resolves_like bag extensions names same fault.2 upper).1 fault.6, unreserved fault.2 upper (own.0, own.1, stands) fault.6, refl),
        ),
      )
  below_complete more has _ is fault = absurd cc

  pub tells_enumerated_below : (before after : List Fault) → TellsJust (SomeGives (FindsEnumeratedBelow names types) bag) before after
      → TellsAlso bag extensions kind.enumerated_below before after
  tells_enumerated_below before after =
      tells_kind bag extensions kind.enumerated_below (SomeGives (FindsEnumeratedBelow names types) bag) before after below_sound below_complete
