-- Bags that are resolved part by part.
use Rattle.std.proofs.Common.{List, [], ◌∷◌, ◌++◌, map, inl, inr, Contains, arith}
use Rattle.std.proofs.lemmas.List.Elements.{Contains-append_cases}
use Rattle.std.specs.List.{flat_map}
use Rattle.cedar_ast.proofs.Lists.{Contains-preimage}
use Rattle.cedar_ast.proofs.TurnLemmas.{turn_weaker}
use Rattle.cedar_fragments.proofs.UnresolvableLemmas.{to_resolve}
use Rattle.cedar_fragments.specs.Words.{Bag, Declaration, Fault, HasToResolve, HasToResolveIn, HoldsPairwise, Included, IsAnyParent, IsParentIn, IsRefusedAmong, IsRequested, IsRequestedIn, IsUnresolvableBag, IsUnresolvableIn, Names, NoneIsReserved, QualifyError, Reference, ResolvesBag, ResolvesDeclaration, qualify_fault}
use Rattle.cedar_name_resolution.proofs.Pairwise.{pairwise_append}
use Rattle.cedar_name_resolution.proofs.RefusedLemmas.{unresolvable_wider, refused_unresolvable}
use Rattle.cedar_schema_semantics.proofs.TurnLemmas.{turn_forth}

module _ (names : Names) where
  -- a declaration is resolved, and none of its principals and resources resolves to a reserved name
  abbrev pub ResolvesUnreserved : Declaration → Declaration → Type 0
  ResolvesUnreserved it resolved = ResolvesDeclaration names it resolved × NoneIsReserved names (IsRequestedIn it.body)

  -- the same of a bag
  abbrev pub ResolvesUnreservedBag : Bag → Bag → Type 0
  ResolvesUnreservedBag bag resolved = ResolvesBag names bag resolved × NoneIsReserved names (IsRequested bag)

  -- declarations that are resolved in turn are a bag that is
  pub resolved_turn : (bag resolved : Bag) → HoldsPairwise ResolvesUnreserved bag resolved → ResolvesUnreservedBag bag resolved
  resolved_turn bag resolved turn = (
    turn_weaker ResolvesUnreserved (ResolvesDeclaration names) (λ it other both. both.0) bag resolved turn,
    λ reference name requested resolves.
        let found = turn_forth ResolvesUnreserved bag resolved turn requested.0 requested.1 in
        found.2.1 reference name requested.2 resolves,
  )

  -- what can't be resolved in a part of a bag can't be in the bag
  pub unresolvable_included : (part bag : Bag) → Included part bag → (fault : Fault) → IsUnresolvableBag names part fault → IsUnresolvableBag names bag fault
  unresolvable_included part bag included fault =
      unresolvable_wider names (HasToResolve part) (HasToResolve bag) (IsAnyParent part) (IsAnyParent bag) (IsRequested part) (IsRequested bag)
      (λ reference. elim [
        | inl stands ↦ inl (stands.0, (stands.1.0, included stands.1.0 stands.1.1, stands.1.2), stands.2)
        | inr place ↦ inr (place.0, included place.0 place.1, place.2)
      ])
      (λ parent found. (found.0, included found.0 found.1, found.2)) (λ reference found. (found.0, included found.0 found.1, found.2)) fault

  -- references of a part of a bag that are refused can't be resolved in the bag
  pub refused_included : (part bag : Bag) → Included part bag → (refused : QualifyError) → IsRefusedAmong names (HasToResolve part) refused
      → IsUnresolvableBag names bag (qualify_fault refused)
  refused_included part bag included refused among =
      unresolvable_included part bag included (qualify_fault refused)
      (refused_unresolvable names (HasToResolve part) (IsAnyParent part) (IsRequested part) refused among)

  -- two parts that are resolved are resolved together
  pub resolved_append : (xs xs' ys ys' : Bag) → ResolvesUnreservedBag xs ys → ResolvesUnreservedBag xs' ys'
      → ResolvesUnreservedBag (xs ++ xs') (ys ++ ys')
  resolved_append xs xs' ys ys' front back = (
    pairwise_append (ResolvesDeclaration names) xs xs' ys ys' front.0 back.0,
    λ reference name requested resolves.
        elim (Contains-append_cases xs xs' requested.0 requested.1) [
          | inl here ↦ front.1 reference name (requested.0, here, requested.2) resolves
          | inr there ↦ back.1 reference name (requested.0, there, requested.2) resolves
        ],
  )

  -- several bags that are resolved in turn are resolved together
  pub resolved_together : {X Y : Type 0} (f : X → Bag) (g : Y → Bag) (xs : List X) (ys : List Y)
      → HoldsPairwise ResolvesUnreservedBag (map f xs) (map g ys) → ResolvesUnreservedBag (flat_map f xs) (flat_map g ys)
  resolved_together f g [] [] turn = (tt, λ reference name requested. absurd (omega (arith, requested.1.1)))
  resolved_together f g (x ∷ xs) (y ∷ ys) turn =
      resolved_append (f x) (flat_map f xs) (g y) (flat_map g ys) turn.0 (resolved_together f g xs ys turn.1)
  resolved_together f g _ _ turn = absurd turn

  -- in declarations none of which is of an action nothing is requested
  pub none_requested : {X : Type 0} (f : X → Declaration) (xs : List X) → ((x : X) (reference : Reference) → ¬ IsRequestedIn (f x).body reference)
      → NoneIsReserved names (IsRequested (map f xs))
  none_requested f xs none reference name requested resolves =
      let found = Contains-preimage f xs requested.0 requested.1 in
      absurd (none found.0 reference (rw found.2 requested.2))

-- what can't be resolved in a declaration can't be in a bag that has it
pub unresolvable_declaration : (names : Names) (bag : Bag) (it : Declaration) → Contains bag it → (fault : Fault)
    → IsUnresolvableIn names it.body fault → IsUnresolvableBag names bag fault
unresolvable_declaration names bag it among fault =
    unresolvable_wider names (HasToResolveIn it.body) (HasToResolve bag) (IsParentIn it.body) (IsAnyParent bag) (IsRequestedIn it.body)
    (IsRequested bag) (to_resolve bag it among) (λ parent found. (it, among, found)) (λ reference found. (it, among, found)) fault
