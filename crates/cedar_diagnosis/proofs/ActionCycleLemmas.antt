-- Actions on cycles are faults, and are found.
use Rattle.std.proofs.Common.{◌≡◌, ◌↔◌, Bool, true, false, List, [], ◌∷◌, Option, Some, None, IfOk, Result, Ok, Err, OnOk, Contains, map, ap, sym, ◌∙◌, subst, refl, inl, inr, arith, string_bytes}
use Rattle.std.proofs.lemmas.Bool.{false≢true}
use Rattle.std.specs.Option.{is_some}
use Rattle.cedar_ast.proofs.Basics.{Contains-single}
use Rattle.cedar_ast.proofs.Chains.{first_step}
use Rattle.cedar_ast.proofs.Lists.{Contains-cons}
use Rattle.cedar_ast.specs.Chain.{Chain}
use Rattle.cedar_ast.specs.Words.{PlainName, PlainUid, name_of, uid_of}
use Rattle.cedar_ast.specs.declared.entity_uid.EntityUID.{EntityUID}
use Rattle.cedar_ast.specs.declared.extension.Extensions.{Extensions}
use Rattle.cedar_diagnosis.proofs.AddingLemmas.{adds_also, adds_like, adds_listed, adds_nothing, members_give}
use Rattle.cedar_diagnosis.proofs.KindLemmas.{MayTell, tells_kind}
use Rattle.cedar_diagnosis.proofs.LinkLemmas.{mapped}
use Rattle.cedar_diagnosis.proofs.NameLemmas.{named_one_of, named_only}
use Rattle.cedar_diagnosis.proofs.ParentLemmas.{Has, alone_none, both_lack}
use Rattle.cedar_diagnosis.proofs.TogetherLemmas.{TellsAlso}
use Rattle.cedar_diagnosis.specs.Adding.{Adds, SomeGives, TellsJust}
use Rattle.cedar_diagnosis.specs.Diagnosis.{IsTold}
use Rattle.cedar_diagnosis.specs.Finding.{HasParentIn, LinksAction, LinksToParent}
use Rattle.cedar_diagnosis.specs.Kinds as kind
use Rattle.cedar_diagnosis.specs.Kinds.{kind_of}
use Rattle.cedar_diagnosis.specs.Links.{LinksIn}
use Rattle.cedar_diagnosis.specs.Names.{action_uids_in}
use Rattle.cedar_diagnosis.specs.ReferenceKeys.{IsActionAt, IsNamedBy, key_parent, names_tried}
use Rattle.cedar_diagnosis.specs.Ties.{uid_told}
use Rattle.cedar_diagnosis.specs.declared.parent_key.ParentKey.{ParentKey}
use Rattle.cedar_name_resolution.specs.Words.{HasAlso, HoldsJust}
use Rattle.cedar_schema_ast.specs.Words.{ActionBody, ActionReference, Body, Declaration, action, common_type, entity_type}
use Rattle.cedar_schema_semantics.proofs.DeclarationLemmas.{action_declaration, declares_action}
use Rattle.cedar_schema_semantics.proofs.ResolutionLemmas.{IsFirst-like, IsFirst-same}
use Rattle.cedar_schema_semantics.specs.Words.{Bag, Fault, HasParentAction, IsFault, IsFirst, Names, NamesAction, NamesNoAction, action_cycle, action_in, action_uids, alias_name, declared_actions, declared_uid, defined_names}

-- the first of the names that are tried is the first of which a fact holds, if it does
first_tried : (P : PlainName → Type 0) (within : Bool) (first : PlainName) → P first → IsFirst P (names_tried within first) first
first_tried P true first holds = inl (refl, holds)
first_tried P false first holds = inl (refl, holds)

-- and else the second, where one is tried
second_tried : (P : PlainName → Type 0) (within : Bool) (first : PlainName) → within ≡ true → (¬ P first) → P (alias_name first.base)
    → IsFirst P (names_tried within first) (alias_name first.base)
second_tried P true first is not holds = inr (not, inl (refl, holds))
second_tried P false first is not holds = absurd (false≢true is)

module _ (actions : List PlainUid) (key : ParentKey) where
  -- the uid that the parent would have under a name
  abbrev under : PlainName → PlainUid
  under name = record { ty = name; eid = string_bytes key.id }

  -- an action that the first name gives is named
  pub named_first : (found : Option EntityUID) → is_some found ≡ true → IsActionAt actions (under (name_of key.reference.first)) found
      → IsNamedBy actions (key_parent key) found
  named_first None some at = absurd (false≢true some)
  named_first (Some uid) some at =
      let Tried : PlainName → Type 0 = λ name. IsFirst (Has actions (string_bytes key.id) key.reference) (names_tried key.reference.is_within (name_of key.reference.first)) name in (
        subst Tried (sym (ap (λ (each : PlainUid). each.ty) at.0)) (first_tried (Has actions (string_bytes key.id) key.reference) key.reference.is_within (name_of key.reference.first) at.1),
        ap (λ (each : PlainUid). each.eid) at.0,
      )

  -- where no other name is tried, none else is
  pub named_alone : (found : Option EntityUID) → is_some found ≡ false → key.reference.is_within ≡ false
      → IsActionAt actions (under (name_of key.reference.first)) found → IsNamedBy actions (key_parent key) found
  named_alone None none alone at = alone_none actions (string_bytes key.id) key.reference alone at
  named_alone (Some uid) none alone at = absurd cc

  -- and where one is, the second name gives one
  pub named_second : {E : Type 0} (first : Option EntityUID) (second : Result (Option EntityUID) E) → is_some first ≡ false → key.reference.is_within ≡ true
      → IsActionAt actions (under (name_of key.reference.first)) first
      → IfOk second (λ found. IsActionAt actions (under (alias_name (name_of key.reference.first).base)) found)
      → IfOk second (λ found. IsNamedBy actions (key_parent key) found)
  named_second (Some uid) second none within lacks at = absurd cc
  named_second None (Ok None) none within lacks at = both_lack actions (string_bytes key.id) key.reference lacks at
  named_second None (Ok (Some uid)) none within lacks at =
      let P = Has actions (string_bytes key.id) key.reference in
      let Tried : PlainName → Type 0 = λ name. IsFirst P (names_tried key.reference.is_within (name_of key.reference.first)) name in (
        subst Tried (sym (ap (λ (each : PlainUid). each.ty) at.0)) (second_tried P key.reference.is_within (name_of key.reference.first) within lacks at.1),
        ap (λ (each : PlainUid). each.eid) at.0,
      )
  named_second None (Err e) none within lacks at = tt

-- a parent names one action
names_one : (actions : List PlainUid) (parent : ActionReference) (uid other : PlainUid) → NamesAction actions parent uid
    → NamesAction actions parent other → uid ≡ other
names_one actions parent uid other one two =
    let types = IsFirst-same (λ ty. Contains actions (record { ty = ty; eid = parent.id })) parent.ty.possibilities uid.ty other.ty one.0 two.0 in
    let ids : uid.eid ≡ other.eid = one.1 ∙ sym two.1 in
    λ i. record { ty = types i; eid = ids i }

-- the first of which a fact holds is one of which it does
first_holds : (P : PlainName → Type 0) (names : List PlainName) (name : PlainName) → IsFirst P names name → Contains names name × P name
first_holds P [] name is = absurd is
first_holds P (first ∷ names) name is = elim is [
  | inl here ↦ (Contains-cons first names name (inl here.0), subst P here.0 here.1)
  | inr later ↦ let found = first_holds P names name later.1 in (Contains-cons first names name (inr found.0), found.1)
]

-- a parent that names an action doesn't name none
pub names_some : (actions : List PlainUid) (parent : ActionReference) (uid : PlainUid) → NamesAction actions parent uid → ¬ NamesNoAction actions parent
names_some actions parent uid named none =
    let first = first_holds (λ ty. Contains actions (record { ty = ty; eid = parent.id })) parent.ty.possibilities uid.ty named.0 in
    none uid.ty first.0 first.1

-- a parent of which an action was found names one, and another none
pub found_named : (actions : List PlainUid) (parent : ActionReference) (found : Option EntityUID) → is_some found ≡ true
    → IsNamedBy actions parent found → ¬ NamesNoAction actions parent
found_named actions parent None some named = absurd (false≢true some)
found_named actions parent (Some uid) some named = names_some actions parent (uid_of uid) named

pub found_unnamed : (actions : List PlainUid) (parent : ActionReference) (found : Option EntityUID) → is_some found ≡ false
    → IsNamedBy actions parent found → NamesNoAction actions parent
found_unnamed actions parent None none named = named
found_unnamed actions parent (Some uid) none named = absurd cc

-- so one link is added where it names one
pub links_one : (actions : List PlainUid) (parent : ActionReference) (lower upper : PlainUid) (before after : List (Fault × Fault)) (item : Fault × Fault)
    → item ≡ (action_cycle lower, action_cycle upper) → NamesAction actions parent upper → HasAlso after before (item ∷ [])
    → Adds (LinksToParent actions lower parent) before after
links_one actions parent lower upper before after item is named also =
    adds_like (λ link. item ≡ link) (LinksToParent actions lower parent) before after
    (λ link same. (upper, named, sym is ∙ same))
    (λ link links.
    let same : upper ≡ links.0 = names_one actions parent upper links.0 named links.1 in
    is ∙ (ap (λ uid. (action_cycle lower, action_cycle uid)) same ∙ links.2))
    (adds_also before after item also)

-- and none where it names none
pub links_none : (actions : List PlainUid) (parent : ActionReference) (lower : PlainUid) (before : List (Fault × Fault)) → NamesNoAction actions parent
    → Adds (LinksToParent actions lower parent) before before
links_none actions parent lower before none =
    adds_nothing (LinksToParent actions lower parent) before
    (λ link links. names_some actions parent links.0 links.1 none)

-- the parents of an action that is declared are those of its declaration
pub parents_listed : {X E : Type 0} (result : Result X E) (seen : X → List ActionReference) (it : Declaration) (body : ActionBody)
    (parents : List ActionReference) → it.body ≡ action body → body.parents ≡ parents → IfOk result (λ keys. seen keys ≡ parents)
    → IfOk result (λ keys. Adds (HasParentIn it.body) [] (seen keys))
parents_listed (Err e) seen it body parents is own are = tt
parents_listed (Ok keys) seen it body parents is own are =
    adds_listed (HasParentIn it.body) [] (seen keys) (seen keys) refl
    (λ parent. (
      λ among. subst (λ each. HasParentIn each parent) (sym is) (subst (λ all. Contains all parent) (are ∙ sym own) among),
      λ has. subst (λ all. Contains all parent) (sym (are ∙ sym own)) (subst (λ each. HasParentIn each parent) is has),
    ))

-- what the parents of an action give is linked by its declaration
pub linked_parents : {E : Type 0} (result : Result Unit E) (actions : List PlainUid) (it : Declaration) (lower : PlainUid)
    (parents : List ActionReference) (before after : List (Fault × Fault)) → lower ∷ [] ≡ action_uids_in it
    → Adds (HasParentIn it.body) [] parents → OnOk result (Adds (SomeGives (LinksToParent actions lower) parents) before after)
    → OnOk result (Adds (LinksAction actions it) before after)
linked_parents {E = E} result actions it lower parents before after is_one members adds =
    of_members result (members_give result (LinksToParent actions lower) (HasParentIn it.body) parents before after members adds)
  where
    of_members : {F : Type 0} (result : Result Unit F)
        → OnOk result (Adds (λ link. (parent : ActionReference) × HasParentIn it.body parent × LinksToParent actions lower parent link) before after)
        → OnOk result (Adds (LinksAction actions it) before after)
    of_members (Ok x) given =
        adds_like (λ link. (parent : ActionReference) × HasParentIn it.body parent × LinksToParent actions lower parent link)
        (LinksAction actions it) before after
        (λ link some. (lower, named_one_of lower (action_uids_in it) is_one lower refl, some.0, some.1, some.2))
        (λ link found.
        let same : found.0 ≡ lower = sym (named_only lower (action_uids_in it) is_one found.0 found.1) in
        (found.2, found.3, subst (λ each. LinksToParent actions each found.2 link) same found.4)) given
    of_members (Err x) given = tt

-- the uids that the body of a declaration gives to actions
abbrev uids_in : PlainUid → Body → List PlainUid
uids_in own body = map (λ (each : PlainUid × ActionBody). each.0) (action_in own body)

-- the uid under which an action is declared
has_uid : (it : Declaration) (body : ActionBody) (uid : PlainUid) → it.body ≡ action body → declared_uid it ≡ uid
    → Contains (action_uids_in it) uid
has_uid it body uid is named =
    subst (λ each. Contains (uids_in (declared_uid it) each) uid) (sym is) (Contains-cons (declared_uid it) [] uid (inl named))

-- an action that is declared
action_of : (it : Declaration) (uid : PlainUid) → Contains (action_uids_in it) uid
    → (body : ActionBody) × (it.body ≡ action body) × (declared_uid it ≡ uid)
action_of it uid among = of_body it.body (declared_uid it) among where
  of_body : (body : Body) (own : PlainUid) → Contains (uids_in own body) uid → (said : ActionBody) × (body ≡ action said) × (own ≡ uid)
  of_body (action body) own among = (body, refl, Contains-single own uid among)
  of_body (common_type definition) own among = absurd (omega (arith, among.1))
  of_body (entity_type body) own among = absurd (omega (arith, among.1))

module _ (bag : Bag) (extensions : Extensions) (names : Names) (same : HoldsJust names (defined_names bag extensions)) where
  -- parents name the same actions
  names_like : (parent : ActionReference) (uid : PlainUid) → NamesAction names.actions parent uid ↔ NamesAction (action_uids bag) parent uid
  names_like parent uid =
      let One : PlainName → Type 0 = λ ty. Contains names.actions (record { ty = ty; eid = parent.id }) in
      let Other : PlainName → Type 0 = λ ty. Contains (action_uids bag) (record { ty = ty; eid = parent.id }) in (
        λ named. (
          IsFirst-like One Other (λ ty. (same.actions (record { ty = ty; eid = parent.id })).0)
              (λ ty. (same.actions (record { ty = ty; eid = parent.id })).1) parent.ty.possibilities uid.ty named.0,
          named.1,
        ),
        λ named. (
          IsFirst-like Other One (λ ty. (same.actions (record { ty = ty; eid = parent.id })).1)
              (λ ty. (same.actions (record { ty = ty; eid = parent.id })).0) parent.ty.possibilities uid.ty named.0,
          named.1,
        ),
      )

  -- a link is a parent
  parent_by : (a b : Fault) → LinksIn (LinksAction names.actions) bag a b
      → (lower : PlainUid) × (upper : PlainUid) × (action_cycle lower ≡ a) × (action_cycle upper ≡ b) × HasParentAction bag lower upper
  parent_by a b some =
      let it = some.0 in
      let found = some.2 in
      let lower = found.0 in
      let parent = found.2 in
      let links = found.4 in
      let declared = action_of it lower found.1 in
      let has : Contains declared.0.parents parent = subst (λ body. HasParentIn body parent) declared.1 found.3 in
      let listed : Contains (declared_actions bag) (lower, declared.0) =
      subst (λ each. Contains (declared_actions bag) (each, declared.0)) declared.2 (declares_action bag it declared.0 some.1 declared.1) in (
        lower,
        links.0,
        ap (λ (each : Fault × Fault). each.0) links.2,
        ap (λ (each : Fault × Fault). each.1) links.2,
        (parent, (declared.0, listed, has), (names_like parent links.0).0 links.1),
      )

  -- and each parent is one
  linked_by : (lower upper : PlainUid) → HasParentAction bag lower upper
      → LinksIn (LinksAction names.actions) bag (action_cycle lower) (action_cycle upper)
  linked_by lower upper has =
      let parent = has.0 in
      let body = has.1.0 in
      let declared = action_declaration bag lower body has.1.1 in
      let stands : HasParentIn declared.0.body parent = subst (λ each. HasParentIn each parent) (sym declared.2) has.1.2 in (
        declared.0,
        declared.1,
        (
          lower,
          has_uid declared.0 body lower declared.2 declared.3,
          parent,
          stands,
          (upper, (names_like parent upper).1 has.2, refl),
        ),
      )

  cycle_sound : (fault : Fault) → Chain (LinksIn (LinksAction names.actions) bag) fault fault → MayTell bag extensions kind.action_cycle fault
  cycle_sound fault chain =
      let Link = LinksIn (LinksAction names.actions) bag in
      let Has' = HasParentAction bag in
      let first = first_step Link fault fault chain in
      let by = parent_by fault first.0 first.1 in
      let each : (k l : Fault) → Link k l → Has' (uid_told k) (uid_told l) = λ k l link.
      let step = parent_by k l link in
      subst (λ from. Has' from (uid_told l)) (ap uid_told step.2) (subst (Has' step.0) (ap uid_told step.3) step.4) in
      let around : Chain Has' (uid_told fault) (uid_told fault) = mapped uid_told each chain in
      let back : Chain Has' by.0 by.0 = subst (λ uid. Chain Has' uid uid) (sym (ap uid_told by.2)) around in
      subst (MayTell bag extensions kind.action_cycle) by.2 (refl, back, tt)

  cycle_complete : (more : List Fault) → ((fault : Fault) → Chain (LinksIn (LinksAction names.actions) bag) fault fault → Contains more fault)
      → (fault : Fault) → kind_of fault ≡ kind.action_cycle → IsFault bag extensions fault → IsTold more fault
  cycle_complete more has (action_cycle uid) is fault = has (action_cycle uid) (mapped action_cycle linked_by fault)
  cycle_complete more has _ is fault = absurd cc

  pub tells_action_cycles : (before after : List Fault)
      → TellsJust (λ fault. Chain (LinksIn (LinksAction names.actions) bag) fault fault) before after
      → TellsAlso bag extensions kind.action_cycle before after
  tells_action_cycles before after =
      tells_kind bag extensions kind.action_cycle (λ fault. Chain (LinksIn (LinksAction names.actions) bag) fault fault) before after cycle_sound cycle_complete
