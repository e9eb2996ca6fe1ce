-- Bags whose declarations are alike pairwise, but for references and expressions that are alike.
use Rattle.std.proofs.Common.{◌≡◌, ◌↔◌, List, [], ◌∷◌, ◌++◌, Option, Some, None, map, ap, sym, subst, ◌∙◌, refl, inl, Contains, inr}
use Rattle.std.proofs.lemmas.List.{map-append}
use Rattle.std.specs.List.{flat_map}
use Rattle.cedar_ast.proofs.TurnLemmas.{turn_weaker}
use Rattle.cedar_schema_laws.proofs.MeaningLemmas.{MeansTheSame, MeansTheSame-sym, resolved_means, AreAlike, AreAlike-sym, resolved_alike}
use Rattle.cedar_schema_laws.specs.Words.{ActionBody, ActionReference, Bag, Body, Declaration, EntityBody, Expr, HoldsPairwise, IsFirst, Names, NamesAction, PlainName, PlainUid, Reference, Requests, ResolvesBody, ResolvesDeclaration, ResolvesEntityBody, ResolvesParent, ResolvesReference, ResolvesRequests, ResolvesTags, action, action_in, action_word, common_in, common_type, declared_name, declared_uid, elsewhere, entity_in, entity_type, enumerated, external, name_within, requests, standard}
use Rattle.cedar_schema_semantics.proofs.ResolutionLemmas.{IsFirst-same}
use Rattle.cedar_schema_semantics.proofs.TurnLemmas.{turn_back}

-- where related items give the same keys, related lists do
pub keys_pairwise : {A Y K : Type 0} (R : A → A → Type 0) (f : A → List Y) (key : Y → K)
    → ((x y : A) → R x y → map key (f x) ≡ map key (f y)) → (xs ys : List A) → HoldsPairwise R xs ys
    → map key (flat_map f xs) ≡ map key (flat_map f ys)
keys_pairwise R f key same [] [] turn = refl
keys_pairwise R f key same (x ∷ xs) (y ∷ ys) turn =
    map-append key (f x) (flat_map f xs)
    ∙ ((λ i. same x y turn.0 i ++ keys_pairwise R f key same xs ys turn.1 i) ∙ sym (map-append key (f y) (flat_map f ys)))
keys_pairwise R f key same _ _ turn = absurd turn

-- two references to actions mean the same, each over its actions: they have one id, name the same,
-- and do name one
abbrev pub NamesTheSame : List PlainUid → List PlainUid → ActionReference → ActionReference → Type 0
NamesTheSame actions others parent other =
    (parent.id ≡ other.id) × ((uid : PlainUid) → NamesAction actions parent uid ↔ NamesAction others other uid)
    × ((uid : PlainUid) × NamesAction actions parent uid)

-- how references, references to actions, and expressions are alike
pub record Likeness : Type 1 where
  pub reference : Reference → Reference → Type 0
  pub parent : ActionReference → ActionReference → Type 0
  pub expr : Expr → Expr → Type 0

-- what is alike in the one way is so in the other, the other way round
pub record TurnsTo (like back : Likeness) : Type 0 where
  pub reference : (it other : Reference) → like.reference it other → back.reference other it
  pub parent : (it other : ActionReference) → like.parent it other → back.parent other it
  pub expr : (it other : Expr) → like.expr it other → back.expr other it

-- tags that are alike
abbrev pub TagsAlike : Likeness → Option Expr → Option Expr → Type 0
TagsAlike like (Some expr) (Some other) = like.expr expr other
TagsAlike like None None = Unit {0}
TagsAlike like _ _ = ⊥

-- what is declared of entity types is alike
abbrev pub EntitiesAlike : Likeness → EntityBody → EntityBody → Type 0
EntitiesAlike like (standard parents shape tags) (standard parents' shape' tags') =
    HoldsPairwise like.reference parents parents' × like.expr shape shape' × TagsAlike like tags tags'
EntitiesAlike like (enumerated choices) (enumerated choices') = choices ≡ choices'
EntitiesAlike like (external parents) (external parents') = HoldsPairwise like.reference parents parents'
EntitiesAlike like _ _ = ⊥

-- requests are alike
abbrev pub RequestsAlike : Likeness → Requests → Requests → Type 0
RequestsAlike like (requests ps rs context) (requests ps' rs' context') =
    HoldsPairwise like.reference ps ps' × HoldsPairwise like.reference rs rs' × like.expr context context'
RequestsAlike like elsewhere elsewhere = Unit {0}
RequestsAlike like _ _ = ⊥

-- what is declared is alike
abbrev pub BodiesAlike : Likeness → Body → Body → Type 0
BodiesAlike like (common_type definition) (common_type other) = like.expr definition other
BodiesAlike like (entity_type body) (entity_type other) = EntitiesAlike like body other
BodiesAlike like (action body) (action other) =
    (body.has_attributes ≡ other.has_attributes) × HoldsPairwise like.parent body.parents other.parents
    × RequestsAlike like body.applies_to other.applies_to
BodiesAlike like _ _ = ⊥

-- declarations are alike
abbrev pub DeclarationsAlike : Likeness → Declaration → Declaration → Type 0
DeclarationsAlike like it other =
    (it.namespace ≡ other.namespace) × (it.id ≡ other.id) × BodiesAlike like it.body other.body

module _ (like back : Likeness) (turns : TurnsTo like back) where
  references-sym : (references others : List Reference) → HoldsPairwise like.reference references others
      → HoldsPairwise back.reference others references
  references-sym = turn_back like.reference back.reference turns.reference

  tags-sym : (tags other : Option Expr) → TagsAlike like tags other → TagsAlike back other tags
  tags-sym None None alike = tt
  tags-sym (Some expr) (Some other) alike = turns.expr expr other alike
  tags-sym _ _ alike = absurd alike

  entities-sym : (body other : EntityBody) → EntitiesAlike like body other → EntitiesAlike back other body
  entities-sym (standard ps shape tags) (standard ps' shape' tags') alike =
      (references-sym ps ps' alike.0, turns.expr shape shape' alike.1, tags-sym tags tags' alike.2)
  entities-sym (enumerated choices) (enumerated choices') alike = sym alike
  entities-sym (external ps) (external ps') alike = references-sym ps ps' alike
  entities-sym _ _ alike = absurd alike

  requests-sym : (it other : Requests) → RequestsAlike like it other → RequestsAlike back other it
  requests-sym (requests ps rs context) (requests ps' rs' context') alike =
      (references-sym ps ps' alike.0, references-sym rs rs' alike.1, turns.expr context context' alike.2)
  requests-sym elsewhere elsewhere alike = tt
  requests-sym _ _ alike = absurd alike

  bodies-sym : (body other : Body) → BodiesAlike like body other → BodiesAlike back other body
  bodies-sym (common_type definition) (common_type other) alike = turns.expr definition other alike
  bodies-sym (entity_type body) (entity_type other) alike = entities-sym body other alike
  bodies-sym (action body) (action other) alike = (
    sym alike.0,
    turn_back like.parent back.parent turns.parent body.parents other.parents alike.1,
    requests-sym body.applies_to other.applies_to alike.2,
  )
  bodies-sym _ _ alike = absurd alike

  declarations-sym : (it other : Declaration) → DeclarationsAlike like it other → DeclarationsAlike back other it
  declarations-sym it other alike = (sym alike.0, sym alike.1, bodies-sym it.body other.body alike.2)

  -- bags whose declarations are alike are so the other way round
  pub bags-sym : (bag other : Bag) → HoldsPairwise (DeclarationsAlike like) bag other
      → HoldsPairwise (DeclarationsAlike back) other bag
  bags-sym = turn_back (DeclarationsAlike like) (DeclarationsAlike back) declarations-sym

-- alike by meaning, each over its names
abbrev pub by_meaning : Names → Names → Likeness
by_meaning names others = record {
  reference = MeansTheSame names others;
  parent = NamesTheSame names.actions others.actions;
  expr = AreAlike names others;
}

module _ (names others : Names) where
  -- this is symmetric
  NamesTheSame-sym : (parent other : ActionReference) → NamesTheSame names.actions others.actions parent other
      → NamesTheSame others.actions names.actions other parent
  NamesTheSame-sym parent other (id, both, some) =
      (sym id, λ uid. ((both uid).1, (both uid).0), (some.0, (both some.0).0 some.1))

  pub by_meaning-sym : TurnsTo (by_meaning names others) (by_meaning others names)
  by_meaning-sym = record {
    reference = MeansTheSame-sym names others;
    parent = NamesTheSame-sym;
    expr = λ it other alike. AreAlike-sym names others alike;
  }

-- declarations that are alike have one name, and one uid
pub alike_name : (like : Likeness) (it other : Declaration) → DeclarationsAlike like it other
    → declared_name it ≡ declared_name other
alike_name like it other alike i = name_within (alike.0 i) (alike.1 i)

pub alike_uid : (like : Likeness) (it other : Declaration) → DeclarationsAlike like it other
    → declared_uid it ≡ declared_uid other
alike_uid like it other alike i = record { ty = name_within (alike.0 i) action_word; eid = alike.1 i }

module _ (like : Likeness) where
  -- what is declared, up to its name, gives the same keys
  pub common_keys : (it other : Declaration) → DeclarationsAlike like it other
      → map (λ (each : PlainName × Expr). each.0) (common_in (declared_name it) it.body)
      ≡ map (λ (each : PlainName × Expr). each.0) (common_in (declared_name other) other.body)
  common_keys it other same_declared = by it.body other.body same_declared.2 where
    same : declared_name it ≡ declared_name other
    same = alike_name like it other same_declared

    by : (body body' : Body) → BodiesAlike like body body'
        → map (λ (each : PlainName × Expr). each.0) (common_in (declared_name it) body)
        ≡ map (λ (each : PlainName × Expr). each.0) (common_in (declared_name other) body')
    by (common_type definition) (common_type definition') alike = ap (λ each. each ∷ []) same
    by (entity_type body) (entity_type body') alike = refl
    by (action body) (action body') alike = refl
    by _ _ alike = absurd alike

  pub entity_keys : (it other : Declaration) → DeclarationsAlike like it other
      → map (λ (each : PlainName × EntityBody). each.0) (entity_in (declared_name it) it.body)
      ≡ map (λ (each : PlainName × EntityBody). each.0) (entity_in (declared_name other) other.body)
  entity_keys it other same_declared = by it.body other.body same_declared.2 where
    same : declared_name it ≡ declared_name other
    same = alike_name like it other same_declared

    by : (body body' : Body) → BodiesAlike like body body'
        → map (λ (each : PlainName × EntityBody). each.0) (entity_in (declared_name it) body)
        ≡ map (λ (each : PlainName × EntityBody). each.0) (entity_in (declared_name other) body')
    by (common_type definition) (common_type definition') alike = refl
    by (entity_type body) (entity_type body') alike = ap (λ each. each ∷ []) same
    by (action body) (action body') alike = refl
    by _ _ alike = absurd alike

  pub action_keys : (it other : Declaration) → DeclarationsAlike like it other
      → map (λ (each : PlainUid × ActionBody). each.0) (action_in (declared_uid it) it.body)
      ≡ map (λ (each : PlainUid × ActionBody). each.0) (action_in (declared_uid other) other.body)
  action_keys it other same_declared = by it.body other.body same_declared.2 where
    same : declared_uid it ≡ declared_uid other
    same = alike_uid like it other same_declared

    by : (body body' : Body) → BodiesAlike like body body'
        → map (λ (each : PlainUid × ActionBody). each.0) (action_in (declared_uid it) body)
        ≡ map (λ (each : PlainUid × ActionBody). each.0) (action_in (declared_uid other) body')
    by (common_type definition) (common_type definition') alike = refl
    by (entity_type body) (entity_type body') alike = refl
    by (action body) (action body') alike = ap (λ each. each ∷ []) same
    by _ _ alike = absurd alike

module _ (names : Names) where
  -- a parent means the same as it does resolved
  resolved_parent : (parent resolved : ActionReference) → ResolvesParent names parent resolved
      → NamesTheSame names.actions names.actions parent resolved
  resolved_parent parent resolved (uid, named, is) = (ap (λ (each : ActionReference). each.id) (sym is), both, (uid, named)) where
    Stands : PlainName → Type 0
    Stands ty = Contains names.actions (record { ty = ty; eid = parent.id })

    one_uid : (other : PlainUid) → NamesAction names.actions parent other → uid ≡ other
    one_uid other named' =
        let ty = IsFirst-same Stands parent.ty.possibilities uid.ty other.ty named.0 named'.0 in
        λ i. record { ty = ty i; eid = (named.1 ∙ sym named'.1) i }

    there : Stands uid.ty
    there = first_holds parent.ty.possibilities named.0 where
      first_holds : (xs : List PlainName) → IsFirst Stands xs uid.ty → Stands uid.ty
      first_holds [] first = absurd first
      first_holds (x ∷ xs) first = elim first [ inl here ↦ rw here.0 at here.1 | inr later ↦ first_holds xs later.1 ]

    own : NamesAction names.actions resolved uid
    own = rw is (inl (refl, there), named.1)

    both : (other : PlainUid) → NamesAction names.actions parent other ↔ NamesAction names.actions resolved other
    both other = (
      λ named'. rw (one_uid other named') at own,
      λ named'. let at = rw is at named' in
          let ty : uid.ty ≡ other.ty = elim at.0 [ inl here ↦ here.0 | inr none ↦ absurd none.1 ] in
          subst (NamesAction names.actions parent) (λ i. record { ty = ty i; eid = (named.1 ∙ sym at.1) i }) named,
    )

  -- what is declared is like itself resolved
  resolved_tags : (tags resolved : Option Expr) → ResolvesTags names tags resolved → TagsAlike (by_meaning names names) tags resolved
  resolved_tags None None it = tt
  resolved_tags (Some expr) (Some resolved) it = resolved_alike names names refl it
  resolved_tags _ _ it = absurd it

  resolved_references : (references resolved : List Reference) → HoldsPairwise (ResolvesReference names) references resolved
      → HoldsPairwise (MeansTheSame names names) references resolved
  resolved_references = turn_weaker (ResolvesReference names) (MeansTheSame names names) (resolved_means names names refl)

  resolved_entity : (body resolved : EntityBody) → ResolvesEntityBody names body resolved → EntitiesAlike (by_meaning names names) body resolved
  resolved_entity (standard ps shape tags) (standard ps' shape' tags') it =
      (resolved_references ps ps' it.0, resolved_alike names names refl it.1, resolved_tags tags tags' it.2)
  resolved_entity (enumerated choices) (enumerated choices') it = it
  resolved_entity (external ps) (external ps') it = resolved_references ps ps' it
  resolved_entity _ _ it = absurd it

  resolved_requests : (it resolved : Requests) → ResolvesRequests names it resolved → RequestsAlike (by_meaning names names) it resolved
  resolved_requests (requests ps rs context) (requests ps' rs' context') it =
      (resolved_references ps ps' it.0, resolved_references rs rs' it.1, resolved_alike names names refl it.2)
  resolved_requests elsewhere elsewhere it = tt
  resolved_requests _ _ it = absurd it

  resolved_body : (body resolved : Body) → ResolvesBody names body resolved → BodiesAlike (by_meaning names names) body resolved
  resolved_body (common_type definition) (common_type resolved) it = resolved_alike names names refl it
  resolved_body (entity_type body) (entity_type resolved) it = resolved_entity body resolved it
  resolved_body (action body) (action resolved) it = (
    it.0,
    turn_weaker (ResolvesParent names) (NamesTheSame names.actions names.actions) resolved_parent body.parents resolved.parents it.1,
    resolved_requests body.applies_to resolved.applies_to it.2,
  )
  resolved_body _ _ it = absurd it

  -- a declaration is like itself resolved
  pub resolved_declaration : (it resolved : Declaration) → ResolvesDeclaration names it resolved → DeclarationsAlike (by_meaning names names) it resolved
  resolved_declaration it resolved is = (is.namespace, is.id, resolved_body it.body resolved.body is.body)
