-- What can't be resolved in a part can't be in the whole.
use Rattle.std.proofs.Common.{◌≡◌, List, [], ◌∷◌, map, ap, ◌∙◌, refl, inl, inr, Contains}
use Rattle.std.specs.List.{AllByRecursion}
use Rattle.cedar_ast.proofs.Basics.{AllByRecursion-at, Contains-image}
use Rattle.cedar_ast.proofs.Lists.{Contains-preimage}
use Rattle.cedar_fragments.specs.Words.{AllDefs, Bag, Body, Declaration, Entity, EntityUID, HasToResolve, HasToResolveIn, HoldsPairwise, InternalName, IsDefined, IsReserved, Names, NoneIsReserved, PlainName, PlainUid, Reference, ReferenceType, ResolvesBody, ResolvesDeclaration, ResolvesReference, ResolvesTo, declared_action, declared_as, held_names, name_of, reference_to_one, resolved_reference, uid_of}
use Rattle.cedar_schema_ast.specs.declared.json_schema.qualify_error.QualifyError.TheVariants as error
use Rattle.cedar_schema_semantics.proofs.ResolutionLemmas.{IsFirst-same}
use Rattle.cedar_schema_semantics.proofs.TurnLemmas.{turn_forth, turn_back}

-- what has to resolve in a declaration has to in a bag that has it
pub to_resolve : (bag : Bag) (it : Declaration) → Contains bag it → (reference : Reference) → HasToResolveIn it.body reference
    → HasToResolve bag reference
to_resolve bag it among reference = elim [ inl stands ↦ inl (stands.0, (it, among, stands.1), stands.2) | inr place ↦ inr (it, among, place) ]

-- what is declared under one name is resolved as its body is
pub resolves_declared : (names : Names) (name : PlainName) (body resolved : Body) → ResolvesBody names body resolved
    → ResolvesDeclaration names (declared_as name body) (declared_as name resolved)
resolves_declared names name body resolved qualifies = record { namespace = refl; id = refl; body = qualifies }

-- also under one uid
pub resolves_declared_action : (names : Names) (uid : PlainUid) (body resolved : Body) → ResolvesBody names body resolved
    → ResolvesDeclaration names (declared_action uid body) (declared_action uid resolved)
resolves_declared_action names uid body resolved qualifies = record { namespace = refl; id = refl; body = qualifies }

-- no held action has a type that is reserved
pub action_unreserved : (defs : AllDefs) (uid : PlainUid) → Contains (held_names defs).actions uid → ¬ IsReserved uid.ty
action_unreserved defs uid among =
    let found = Contains-preimage uid_of defs.action_defs.keys uid among in
    let it : EntityUID = found.0 in
    rw (← found.2) it.ty.0.unreserved

-- references to one name each that are the same are to the same name
same_name : (kind kind' : ReferenceType) (x y : PlainName) → reference_to_one kind x ≡ reference_to_one kind' y → x ≡ y
same_name kind kind' x y is = let names : x ∷ [] ≡ y ∷ [] = ap (λ (it : Reference). it.possibilities) is in cc

module _ (names : Names) (references : List Reference) (resolved : List InternalName)
    (turn : HoldsPairwise (ResolvesReference names) references (map (resolved_reference Entity) resolved)) where
  -- each name that some references are resolved by is one that a reference resolves to
  pub resolved_by : (item : InternalName) → Contains resolved item
      → (reference : Reference) × Contains references reference × ResolvesTo names reference (name_of item)
  resolved_by item among =
      let back = turn_back (ResolvesReference names) (λ y x. ResolvesReference names x y) (λ x y qualifies. qualifies)
      references (map (resolved_reference Entity) resolved) turn in
      let found = turn_forth (λ y x. ResolvesReference names x y) (map (resolved_reference Entity) resolved)
      references back (resolved_reference Entity item) (Contains-image (resolved_reference Entity) resolved item among) in
      (found.0, found.1, rw (← same_name Entity found.0.kind (name_of item) found.2.0 found.2.2) at found.2.1)

  -- where none of the names is reserved, none of the references resolves to a reserved name
  pub none_reserved : AllByRecursion (λ name. ¬ IsReserved name) (map name_of resolved)
      → NoneIsReserved names (Contains references)
  none_reserved unreserved reference name among resolves =
      let found = turn_forth (ResolvesReference names) references (map (resolved_reference Entity) resolved) turn
      reference among in
      let item = Contains-preimage (resolved_reference Entity) resolved found.0 found.1 in
      let same : name_of item.0 ≡ found.2.0 = same_name Entity reference.kind (name_of item.0) found.2.0 (item.2 ∙ found.2.2) in
      let one : name ≡ found.2.0 = IsFirst-same (IsDefined names reference.kind) reference.possibilities name found.2.0 resolves found.2.1 in
      let IsFree : PlainName → Type 0 = λ each. ¬ IsReserved each in
      rw (one, ← same)
      (AllByRecursion-at IsFree (map name_of resolved) (name_of item.0) unreserved (Contains-image name_of resolved item.0 item.1))
