-- Parents and descent of actions, as edges and in the bag.
use Rattle.std.proofs.Common.{◌≡◌, List, [], ◌∷◌, Option, map, ap, sym, subst, ◌∙◌, Contains}
use Rattle.std.proofs.lemmas.Simd.{map-map}
use Rattle.std.specs.Global.{Box}
use Rattle.cedar_ast.proofs.Basics.{Contains-image}
use Rattle.cedar_ast.proofs.Lists.{Contains-preimage}
use Rattle.cedar_ast.proofs.TurnLemmas.{turn_weaker}
use Rattle.cedar_ast.proofs.Uids.{entity_uid_eq-same}
use Rattle.cedar_ast.specs.contracts.entity_uid.EntityUIDPartialEq.TheImpl as uid_eq
use Rattle.cedar_builder.proofs.NodeParents as any
use Rattle.cedar_builder.specs.ActionNodes.{IsAbove}
use Rattle.cedar_builder.specs.Words.{ActionBody, ActionFragment, ActionReference, AreActionsOf, Bag, Chain, EntityType, EntityUID, Entries, Extensions, Fault, HasParentAction, HoldsPairwise, IsActionParent, IsDescendantAction, IsEdgeOf, IsParentActionFault, IsParentFault, Names, NamesAction, PlainName, PlainUid, Reference, ReferenceType, SameItems, TypeScope, ValidatorEntityType, Written, action_uids, declared_actions, held_names, more, one, parents_in, requests_in, uid_of, written_action_body, written_actions}
use Rattle.cedar_schema_semantics.proofs.NamedActions.{NamesAction-among}
use Rattle.cedar_schema_semantics.proofs.ResolutionLemmas.{IsFirst-like, IsFirst-same}
use Rattle.cedar_schema_semantics.proofs.TurnLemmas.{turn_back, turn_forth}

-- the parents of what is declared
abbrev pub parents_of : ActionBody → List ActionReference
parents_of body = body.parents

-- the edges are those to what is declared from what its parents name, of some actions
abbrev pub AreEdges : List PlainUid → List (PlainUid × ActionBody) → List (EntityUID × EntityUID) → Type 0
AreEdges actions declared edges =
    HoldsPairwise (IsEdgeOf uid_of (NamesAction actions)) edges (parents_in (map (any.with_parents parents_of) declared))

-- of declarations by the names that are written
module _ (N : Type 0) (refer : Option PlainName → ReferenceType → N → Reference) where
  -- the uid of an action with the parents that are declared
  abbrev pub listed : Box (EntityUID × Written (ActionFragment N N)) → PlainUid × List ActionReference
  listed it = (uid_of it.value.0, (written_action_body N refer it.value.1).parents)

  -- each with its parents are the declarations with theirs
  same_listed : (items : List (Box (EntityUID × Written (ActionFragment N N))))
      → map listed items ≡ map (any.with_parents parents_of) (written_actions N refer items)
  same_listed items = sym (map-map (any.with_parents parents_of) _ items)

  -- edges to what is listed are those of the declarations
  pub edges_declared : (actions : List PlainUid) (items : List (Box (EntityUID × Written (ActionFragment N N))))
      (edges : List (EntityUID × EntityUID)) → HoldsPairwise (IsEdgeOf uid_of (NamesAction actions)) edges (parents_in (map listed items))
      → AreEdges actions (written_actions N refer items) edges
  edges_declared actions items edges are =
      subst (λ all. HoldsPairwise (IsEdgeOf uid_of (NamesAction actions)) edges (parents_in all)) (same_listed items) are

  -- and so is why their parents are refused
  pub fault_declared : (names : Names) (items : List (Box (EntityUID × Written (ActionFragment N N)))) (fault : Fault)
      → IsParentFault (IsParentActionFault names) (parents_in (map listed items)) fault
      → IsParentFault (IsParentActionFault names) (parents_in (map (any.with_parents parents_of) (written_actions N refer items))) fault
  fault_declared names items fault refused =
      subst (λ all. IsParentFault (IsParentActionFault names) (parents_in all) fault) (same_listed items) refused

  -- each with the requests that it is for are the declarations with theirs
  pub requests_declared : (items : List (Box (EntityUID × Written (ActionFragment N N))))
      → map (λ it. (uid_of it.value.0, (written_action_body N refer it.value.1).applies_to)) items ≡ requests_in (written_actions N refer items)
  requests_declared items = sym (map-map (λ (it : PlainUid × ActionBody). (it.0, it.1.applies_to)) _ items)

  -- a declared uid is that of an action
  pub keys_declared : (items : List (Box (EntityUID × Written (ActionFragment N N)))) (uid : PlainUid)
      → Contains (map (λ it. it.0) (written_actions N refer items)) uid → (key : EntityUID) × (uid_of key ≡ uid)
  keys_declared items uid among =
      let entry = Contains-preimage (λ (it : PlainUid × ActionBody). it.0) (written_actions N refer items) uid among in
      let item = Contains-preimage (λ (it : Box (EntityUID × Written (ActionFragment N N))). (uid_of it.value.0, written_action_body N refer it.value.1))
      items entry.0 entry.1 in
      (item.0.value.0, ap (λ (it : PlainUid × ActionBody). it.0) item.2 ∙ entry.2)

-- a chain of edges to an action is one to each of the same uid
pub chain_to_same : (edges : List (EntityUID × EntityUID)) {upper lower : EntityUID} (other : EntityUID)
    → Chain (IsAbove edges) upper lower → uid_of lower ≡ uid_of other → Chain (IsAbove edges) upper other
chain_to_same edges {upper = upper} {lower = lower} other (one step) same =
    let named : uid_of step.0.1 ≡ uid_of other = (entity_uid_eq-same step.0.1 lower).0 step.3 ∙ same in
    one (step.0, step.1, step.2, (entity_uid_eq-same step.0.1 other).1 named)
chain_to_same edges other (more step rest) same = more step (chain_to_same edges other rest same)

-- a descendant is declared
pub descendant_declared : (bag : Bag) {lower upper : PlainUid} → IsDescendantAction bag lower upper → Contains (action_uids bag) lower
descendant_declared bag {lower = lower} (one step) =
    Contains-image (λ (it : PlainUid × ActionBody). it.0) (declared_actions bag) (lower, step.1.0) step.1.1
descendant_declared bag {lower = lower} (more step rest) =
    Contains-image (λ (it : PlainUid × ActionBody). it.0) (declared_actions bag) (lower, step.1.0) step.1.1

-- of some actions a type is that of one by the id of a reference
abbrev IsTypeOf : List PlainUid → ActionReference → PlainName → Type 0
IsTypeOf actions reference ty = Contains actions (record { ty = ty; eid = reference.id })

-- a reference names one action
once : (actions : List PlainUid) (reference : ActionReference) (uid other : PlainUid) → NamesAction actions reference uid
    → NamesAction actions reference other → uid ≡ other
once actions reference uid other names others =
    let ty : uid.ty ≡ other.ty = IsFirst-same (IsTypeOf actions reference) reference.ty.possibilities uid.ty other.ty names.0 others.0 in
    let eid : uid.eid ≡ other.eid = names.1 ∙ sym others.1 in
    λ i. record { ty = ty i; eid = eid i }

-- of the same actions it names the same
names_alike : (held actions : List PlainUid) → SameItems held actions → (reference : ActionReference) (uid : PlainUid)
    → NamesAction held reference uid → NamesAction actions reference uid
names_alike held actions same reference uid names = (
  IsFirst-like (IsTypeOf held reference) (IsTypeOf actions reference) (λ ty. (same (record { ty = ty; eid = reference.id })).0)
      (λ ty. (same (record { ty = ty; eid = reference.id })).1) reference.ty.possibilities uid.ty names.0,
  names.1,
)

module _ (bag : Bag) (extensions : Extensions) (declared : List (PlainUid × ActionBody))
    (types : Entries EntityType ValidatorEntityType) (scope : TypeScope)
    (ready : AreActionsOf bag extensions declared types scope) where
  -- each of the parents that are listed is one by a declaration
  pub listed_parent : (uid : PlainUid) (reference : ActionReference)
      → Contains (parents_in (map (any.with_parents parents_of) declared)) (uid, reference) → IsActionParent bag uid reference
  listed_parent uid reference among =
      any.parent_from parents_of (declared_actions bag) uid reference
      (subst (λ all. Contains (parents_in (map (any.with_parents parents_of) all)) (uid, reference)) ready.actions among)

  module _ (edges : List (EntityUID × EntityUID)) (are : AreEdges (held_names scope.defs.now).actions declared edges) where
    -- the edges are those of the bag
    in_bag : AreEdges (action_uids bag) (declared_actions bag) edges
    in_bag = subst (λ all. AreEdges (action_uids bag) all edges) ready.actions
        (turn_weaker (IsEdgeOf uid_of (NamesAction (held_names scope.defs.now).actions)) (IsEdgeOf uid_of (NamesAction (action_uids bag)))
        (λ edge it is. (is.0, names_alike (held_names scope.defs.now).actions (action_uids bag) ready.known.names.actions it.1 (uid_of edge.0) is.1))
        edges (parents_in (map (any.with_parents parents_of) declared)) are)

    -- each parent in the bag names an action
    pub parent_named : (uid : PlainUid) (reference : ActionReference) → IsActionParent bag uid reference
        → (upper : PlainUid) × NamesAction (action_uids bag) reference upper
    parent_named uid reference parent =
        let all = parents_in (map (any.with_parents parents_of) (declared_actions bag)) in
        let IsOf = IsEdgeOf uid_of (NamesAction (action_uids bag)) in
        let back = turn_back IsOf (λ it edge. IsOf edge it) (λ edge it is. is) edges all in_bag in
        let found = turn_forth (λ it edge. IsOf edge it) all edges back (uid, reference)
        (any.parent_to parents_of (declared_actions bag) uid reference parent) in
        (uid_of found.0.0, found.2.1)

    -- the upper action of an edge is a parent of the lower
    edge_has_parent : (upper lower : EntityUID) → IsAbove edges upper lower → HasParentAction bag (uid_of lower) (uid_of upper)
    edge_has_parent = any.edge_has_parent (uid_eq.ghosts).eq uid_of entity_uid_eq-same parents_of (NamesAction (action_uids bag))
        (declared_actions bag) edges in_bag

    -- the upper action of an edge is declared
    pub edge_declared : (upper lower : EntityUID) → IsAbove edges upper lower → Contains (action_uids bag) (uid_of upper)
    edge_declared upper lower above =
        let parent = edge_has_parent upper lower above in NamesAction-among (action_uids bag) parent.0 (uid_of upper) parent.2

    -- and so is the lower
    pub lower_declared : (upper lower : EntityUID) → IsAbove edges upper lower → Contains (action_uids bag) (uid_of lower)
    lower_declared upper lower above =
        let parent = (edge_has_parent upper lower above).1 in
        Contains-image (λ (it : PlainUid × ActionBody). it.0) (declared_actions bag) (uid_of lower, parent.0) parent.1

    -- what a chain of edges leads to is a descendant
    pub chain_descends : {upper lower : EntityUID} → Chain (IsAbove edges) upper lower → IsDescendantAction bag (uid_of lower) (uid_of upper)
    chain_descends = any.chain_descends (uid_eq.ghosts).eq uid_of entity_uid_eq-same parents_of (NamesAction (action_uids bag))
        (declared_actions bag) edges in_bag

    -- a chain of edges leads to each descendant
    pub descends_by_chain : {lower upper : PlainUid} → IsDescendantAction bag lower upper → (key : EntityUID)
        → upper ≡ uid_of key → (uid : EntityUID) × (uid_of uid ≡ lower) × Chain (IsAbove edges) key uid
    descends_by_chain = any.descends_by_chain (uid_eq.ghosts).eq uid_of entity_uid_eq-same parents_of (NamesAction (action_uids bag))
        (declared_actions bag) edges in_bag (once (action_uids bag))
