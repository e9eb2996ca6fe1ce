-- Common types on cycles are faults, and are found.
use Rattle.std.proofs.Common.{◌≡◌, ◌++◌, List, [], ◌∷◌, Result, Ok, Err, OnOk, Contains, map, ap, sym, subst, refl, inl, arith}
use Rattle.std.proofs.lemmas.List.Elements.{Contains-append_left}
use Rattle.cedar_ast.proofs.Basics.{Contains-image, Contains-single}
use Rattle.cedar_ast.proofs.Chains.{first_step}
use Rattle.cedar_ast.proofs.Lists.{Contains-cons, Contains-preimage}
use Rattle.cedar_ast.specs.Chain.{Chain}
use Rattle.cedar_ast.specs.Words.{PlainName}
use Rattle.cedar_ast.specs.declared.extension.Extensions.{Extensions}
use Rattle.cedar_diagnosis.proofs.AddingLemmas.{adds_like, members_give}
use Rattle.cedar_diagnosis.proofs.KindLemmas.{MayTell, tells_kind}
use Rattle.cedar_diagnosis.proofs.LinkLemmas.{mapped}
use Rattle.cedar_diagnosis.proofs.NameLemmas.{named_one_of, named_only}
use Rattle.cedar_diagnosis.proofs.ReferringKinds.{resolves_like}
use Rattle.cedar_diagnosis.proofs.TogetherLemmas.{TellsAlso}
use Rattle.cedar_diagnosis.specs.Adding.{Adds, SomeGives, TellsJust}
use Rattle.cedar_diagnosis.specs.Diagnosis.{IsTold}
use Rattle.cedar_diagnosis.specs.Finding.{LinksCommonType, LinksToCommon, RefersAcross}
use Rattle.cedar_diagnosis.specs.Kinds as kind
use Rattle.cedar_diagnosis.specs.Kinds.{kind_of}
use Rattle.cedar_diagnosis.specs.Links.{LinksIn}
use Rattle.cedar_diagnosis.specs.Mentioned.{RefersIn}
use Rattle.cedar_diagnosis.specs.Names.{common_names_in}
use Rattle.cedar_diagnosis.specs.Ties.{name_told}
use Rattle.cedar_name_resolution.specs.Words.{HoldsJust}
use Rattle.cedar_schema_ast.specs.Words.{Body, Declaration, Expr, Reference, action, common_type, entity_type}
use Rattle.cedar_schema_semantics.proofs.BuiltInLemmas.{refers_declared}
use Rattle.cedar_schema_semantics.proofs.DeclarationLemmas.{common_declaration, declares_common}
use Rattle.cedar_schema_semantics.proofs.ResolutionLemmas.{IsFirst-same}
use Rattle.cedar_schema_semantics.specs.Words.{Bag, CountsIn, Fault, IsDefined, IsFault, Names, Refers, RefersToCommon, ResolvesTo, aliases, built_ins, common_in, common_type_cycle, declared_common, declared_name, defined_names, definitions}

-- what links to the name that a reference has links across the reference
pub across_named : {E : Type 0} (result : Result Unit E) (names : Names) (reference : Reference) (lower name : PlainName)
    (before after : List (Fault × Fault)) → ResolvesTo names reference name
    → OnOk result (Adds (LinksToCommon names lower reference.kind name) before after)
    → OnOk result (Adds (RefersAcross names lower reference) before after)
across_named (Ok x) names reference lower name before after resolves adds =
    adds_like (LinksToCommon names lower reference.kind name) (RefersAcross names lower reference) before after
    (λ link links. (name, resolves, links))
    (λ link found.
    let same : name ≡ found.0 = IsFirst-same (IsDefined names reference.kind) reference.possibilities name found.0 resolves found.1 in
    subst (λ each. LinksToCommon names lower reference.kind each link) (sym same) found.2) adds
across_named (Err x) names reference lower name before after resolves adds = tt

-- what the references in the definition of a common type give is linked by it
pub linked_across : {E : Type 0} (result : Result Unit E) (names : Names) (it : Declaration) (lower : PlainName) (references : List Reference)
    (before after : List (Fault × Fault)) → lower ∷ [] ≡ common_names_in it → Adds (RefersIn it.body) [] references
    → OnOk result (Adds (SomeGives (RefersAcross names lower) references) before after)
    → OnOk result (Adds (LinksCommonType names it) before after)
linked_across {E = E} result names it lower references before after is_one members adds =
    of_members result (members_give result (RefersAcross names lower) (RefersIn it.body) references before after members adds)
  where
    of_members : {F : Type 0} (result : Result Unit F)
        → OnOk result (Adds (λ link. (reference : Reference) × RefersIn it.body reference × RefersAcross names lower reference link) before after)
        → OnOk result (Adds (LinksCommonType names it) before after)
    of_members (Ok x) given =
        adds_like (λ link. (reference : Reference) × RefersIn it.body reference × RefersAcross names lower reference link)
        (LinksCommonType names it) before after
        (λ link some. (lower, named_one_of lower (common_names_in it) is_one lower refl, some.0, some.1, some.2))
        (λ link found.
        let same : found.0 ≡ lower = sym (named_only lower (common_names_in it) is_one found.0 found.1) in
        (found.2, found.3, subst (λ each. RefersAcross names each found.2 link) same found.4)) given
    of_members (Err x) given = tt

-- the names that the body of a declaration gives to common types
abbrev names_in : PlainName → Body → List PlainName
names_in own body = map (λ (each : PlainName × Expr). each.0) (common_in own body)

-- the name under which a common type is declared
has_name : (it : Declaration) (definition : Expr) (name : PlainName) → it.body ≡ common_type definition → declared_name it ≡ name
    → Contains (common_names_in it) name
has_name it definition name is named =
    subst (λ each. Contains (names_in (declared_name it) each) name) (sym is) (Contains-cons (declared_name it) [] name (inl named))

-- a common type that is declared, with its definition
common_of : (it : Declaration) (name : PlainName) → Contains (common_names_in it) name
    → (definition : Expr) × (it.body ≡ common_type definition) × (declared_name it ≡ name)
common_of it name among = of_body it.body (declared_name it) among where
  of_body : (body : Body) (own : PlainName) → Contains (names_in own body) name → (definition : Expr) × (body ≡ common_type definition) × (own ≡ name)
  of_body (common_type definition) own among = (definition, refl, Contains-single own name among)
  of_body (entity_type body) own among = absurd (omega (arith, among.1))
  of_body (action body) own among = absurd (omega (arith, among.1))

module _ (bag : Bag) (extensions : Extensions) (names : Names) (same : HoldsJust names (defined_names bag extensions)) where
  -- a link is a reference of the definitions
  refers_by : (a b : Fault) → LinksIn (LinksCommonType names) bag a b
      → (lower : PlainName) × (upper : PlainName) × (common_type_cycle lower ≡ a) × (common_type_cycle upper ≡ b)
      × RefersToCommon (definitions bag extensions) lower upper
  refers_by a b some =
      let it = some.0 in
      let found = some.2 in
      let lower = found.0 in
      let reference = found.2 in
      let across = found.4 in
      let upper = across.0 in
      let links = across.2 in
      let declared = common_of it lower found.1 in
      let definition = declared.0 in
      let expr = found.3.0 in
      let counts : definition ≡ expr = subst (λ body. CountsIn body expr) declared.1 found.3.1 in
      let commons = declared_common bag ++ built_ins extensions ++ aliases bag extensions in
      let listed : Contains (declared_common bag) (lower, definition) =
      subst (λ each. Contains (declared_common bag) (each, definition)) declared.2 (declares_common bag it definition some.1 declared.1) in
      let among : Contains commons (lower, definition) =
      Contains-append_left (declared_common bag ++ built_ins extensions) (aliases bag extensions) (lower, definition)
      (Contains-append_left (declared_common bag) (built_ins extensions) (lower, definition) listed) in
      let refers : Refers definition reference = subst (λ each. Refers each reference) (sym counts) found.3.2 in
      let entry = Contains-preimage (λ (each : PlainName × Expr). each.0) commons upper ((same.common upper).0 links.1) in
      let upper_among : Contains commons (upper, entry.0.1) = subst (λ each. Contains commons (each, entry.0.1)) entry.2 entry.1 in (
        lower,
        upper,
        ap (λ (each : Fault × Fault). each.0) links.2,
        ap (λ (each : Fault × Fault). each.1) links.2,
        (definition, reference, entry.0.1, among, refers, (resolves_like bag extensions names same reference upper).0 across.1, (links.0, upper_among)),
      )

  -- and each reference of the definitions is one
  linked_by : (lower upper : PlainName) → RefersToCommon (definitions bag extensions) lower upper
      → LinksIn (LinksCommonType names) bag (common_type_cycle lower) (common_type_cycle upper)
  linked_by lower upper refers =
      let definition = refers.0 in
      let reference = refers.1 in
      let commons = declared_common bag ++ built_ins extensions ++ aliases bag extensions in
      let declared = common_declaration bag lower definition (refers_declared bag extensions lower definition reference refers.3 refers.4) in
      let counts : CountsIn declared.0.body definition = subst (λ body. CountsIn body definition) (sym declared.2) refl in
      let known : Contains names.common upper =
      (same.common upper).1 (Contains-image (λ (each : PlainName × Expr). each.0) commons (upper, refers.2) refers.6.1) in (
        declared.0,
        declared.1,
        (
          lower,
          has_name declared.0 definition lower declared.2 declared.3,
          reference,
          (definition, counts, refers.4),
          (upper, (resolves_like bag extensions names same reference upper).1 refers.5, (refers.6.0, known, refl)),
        ),
      )

  cycle_sound : (fault : Fault) → Chain (LinksIn (LinksCommonType names) bag) fault fault → MayTell bag extensions kind.common_type_cycle fault
  cycle_sound fault chain =
      let Link = LinksIn (LinksCommonType names) bag in
      let Refers' = RefersToCommon (definitions bag extensions) in
      let first = first_step Link fault fault chain in
      let by = refers_by fault first.0 first.1 in
      let each : (k l : Fault) → Link k l → Refers' (name_told k) (name_told l) = λ k l link.
      let step = refers_by k l link in
      subst (λ from. Refers' from (name_told l)) (ap name_told step.2) (subst (Refers' step.0) (ap name_told step.3) step.4) in
      let around : Chain Refers' (name_told fault) (name_told fault) = mapped name_told each chain in
      let back : Chain Refers' by.0 by.0 = subst (λ name. Chain Refers' name name) (sym (ap name_told by.2)) around in
      subst (MayTell bag extensions kind.common_type_cycle) by.2 (refl, back, tt)

  cycle_complete : (more : List Fault) → ((fault : Fault) → Chain (LinksIn (LinksCommonType names) bag) fault fault → Contains more fault)
      → (fault : Fault) → kind_of fault ≡ kind.common_type_cycle → IsFault bag extensions fault → IsTold more fault
  cycle_complete more has (common_type_cycle name) is fault = has (common_type_cycle name) (mapped common_type_cycle linked_by fault)
  cycle_complete more has _ is fault = absurd cc

  pub tells_common_type_cycles : (before after : List Fault)
      → TellsJust (λ fault. Chain (LinksIn (LinksCommonType names) bag) fault fault) before after
      → TellsAlso bag extensions kind.common_type_cycle before after
  tells_common_type_cycles before after =
      tells_kind bag extensions kind.common_type_cycle (λ fault. Chain (LinksIn (LinksCommonType names) bag) fault fault) before after cycle_sound cycle_complete
