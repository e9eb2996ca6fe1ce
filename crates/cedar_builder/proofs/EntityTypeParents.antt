-- Parents and descent of entity types, as edges and in the bag.
use Rattle.std.proofs.Common.{◌≡◌, ◌∙◌, List, Option, ap, map, subst, sym, Contains}
use Rattle.std.proofs.lemmas.Simd.{map-map}
use Rattle.std.specs.Global.{Box}
use Rattle.cedar_ast.proofs.Lists.{Contains-preimage}
use Rattle.cedar_ast.proofs.Names.{entity_type_eq-same}
use Rattle.cedar_ast.proofs.TurnLemmas.{turn_weaker}
use Rattle.cedar_ast.specs.contracts.entity_type.EntityTypePartialEq.TheImpl as entity_type_eq
use Rattle.cedar_builder.proofs.NodeParents as any
use Rattle.cedar_builder.specs.Words.{Bag, Chain, EntityBody, EntityType, EntityTypeFragment, Extensions, Fault, HasParent, HoldsPairwise, IsAbove, IsAtEntityTypePosition, IsDefined, IsDescendant, IsEdgeOf, IsParent, IsParentFault, IsReady, IsTypeFault, Names, NamesType, PlainName, Reference, ReferenceType, ResolvesTo, TypeScope, Written, declared_entities, defined_names, entity_parents, held_names, parents_in, type_name, written_entities, written_entity_body}
use Rattle.cedar_elaboration.proofs.ScopeLemmas.{same_resolves}
use Rattle.cedar_schema_semantics.proofs.DeclarationLemmas.{entity_declaration}
use Rattle.cedar_schema_semantics.proofs.ResolutionLemmas.{IsFirst-same}
use Rattle.cedar_schema_semantics.proofs.TurnLemmas.{turn_back, turn_forth}

-- the edges are those to what is declared from what its parents resolve to, over some names
abbrev pub AreEdges : Names → List (PlainName × EntityBody) → List (EntityType × EntityType) → Type 0
AreEdges names declared edges =
    HoldsPairwise (IsEdgeOf type_name (NamesType names)) edges (parents_in (map (any.with_parents entity_parents) declared))

-- of declarations by the names that are written
module _ (N : Type 0) (refer : Option PlainName → ReferenceType → N → Reference) where
  -- the name of an entity type with the parents that are declared
  abbrev pub listed : Box (EntityType × Written (EntityTypeFragment N)) → PlainName × List Reference
  listed it = (type_name it.value.0, entity_parents (written_entity_body N refer it.value.1))

  -- each with its parents are the declarations with theirs
  same_listed : (items : List (Box (EntityType × Written (EntityTypeFragment N))))
      → map listed items ≡ map (any.with_parents entity_parents) (written_entities N refer items)
  same_listed items = sym (map-map (any.with_parents entity_parents) _ items)

  -- edges to what is listed are those of the declarations
  pub edges_declared : (names : Names) (items : List (Box (EntityType × Written (EntityTypeFragment N))))
      (edges : List (EntityType × EntityType)) → HoldsPairwise (IsEdgeOf type_name (NamesType names)) edges (parents_in (map listed items))
      → AreEdges names (written_entities N refer items) edges
  edges_declared names items edges are =
      subst (λ all. HoldsPairwise (IsEdgeOf type_name (NamesType names)) edges (parents_in all)) (same_listed items) are

  -- and so is why their parents are refused
  pub fault_declared : (names : Names) (items : List (Box (EntityType × Written (EntityTypeFragment N)))) (fault : Fault)
      → IsParentFault (IsTypeFault names) (parents_in (map listed items)) fault
      → IsParentFault (IsTypeFault names) (parents_in (map (any.with_parents entity_parents) (written_entities N refer items))) fault
  fault_declared names items fault refused =
      subst (λ all. IsParentFault (IsTypeFault names) (parents_in all) fault) (same_listed items) refused

  -- a declared name is that of an entity type
  pub keys_declared : (items : List (Box (EntityType × Written (EntityTypeFragment N)))) (name : PlainName)
      → Contains (map (λ it. it.0) (written_entities N refer items)) name → (key : EntityType) × (type_name key ≡ name)
  keys_declared items name among =
      let entry = Contains-preimage (λ (it : PlainName × EntityBody). it.0) (written_entities N refer items) name among in
      let item = Contains-preimage (λ (it : Box (EntityType × Written (EntityTypeFragment N))). (type_name it.value.0, written_entity_body N refer it.value.1))
      items entry.0 entry.1 in
      (item.0.value.0, ap (λ (it : PlainName × EntityBody). it.0) item.2 ∙ entry.2)

-- an edge between entity types of the same names is one
pub an_edge : (edges : List (EntityType × EntityType)) (edge : EntityType × EntityType) (upper lower : EntityType)
    → Contains edges edge → type_name edge.0 ≡ type_name upper → type_name edge.1 ≡ type_name lower → IsAbove edges upper lower
an_edge edges edge upper lower among above below = (edge, among, (entity_type_eq-same edge.0 upper).1 above, (entity_type_eq-same edge.1 lower).1 below)

-- a parent of an entity type has to be one
pub parent_placed : (bag : Bag) (name : PlainName) (reference : Reference) → IsParent bag name reference → IsAtEntityTypePosition bag reference
parent_placed bag name reference parent =
    let it = entity_declaration bag name parent.0 parent.1 in
    (it.0, it.1, rw it.2 parent.2)

module _ (bag : Bag) (extensions : Extensions) (declared : List (PlainName × EntityBody))
    (scope : TypeScope) (ready : IsReady bag extensions declared scope) where
  -- a reference resolves to one name
  once : (reference : Reference) (name other : PlainName) → ResolvesTo (defined_names bag extensions) reference name
      → ResolvesTo (defined_names bag extensions) reference other → name ≡ other
  once reference = IsFirst-same (IsDefined (defined_names bag extensions) reference.kind) reference.possibilities

  -- what a reference resolves to over the names in scope it resolves to over those of the bag
  pub resolves : (reference : Reference) (name : PlainName) → ResolvesTo (held_names scope.defs.now) reference name
      → ResolvesTo (defined_names bag extensions) reference name
  resolves = same_resolves (held_names scope.defs.now) (defined_names bag extensions) ready.known.names

  -- each of the parents that are listed is one by a declaration
  pub listed_parent : (name : PlainName) (reference : Reference)
      → Contains (parents_in (map (any.with_parents entity_parents) declared)) (name, reference) → IsParent bag name reference
  listed_parent name reference among =
      any.parent_from entity_parents (declared_entities bag) name reference
      (subst (λ all. Contains (parents_in (map (any.with_parents entity_parents) all)) (name, reference)) ready.entities among)

  module _ (edges : List (EntityType × EntityType)) (are : AreEdges (held_names scope.defs.now) declared edges) where
    -- the edges are those of the bag
    in_bag : AreEdges (defined_names bag extensions) (declared_entities bag) edges
    in_bag = subst (λ all. AreEdges (defined_names bag extensions) all edges) ready.entities
        (turn_weaker (IsEdgeOf type_name (NamesType (held_names scope.defs.now))) (IsEdgeOf type_name (NamesType (defined_names bag extensions)))
        (λ edge it is. (is.0, (is.1.0, resolves it.1 (type_name edge.0) is.1.1))) edges (parents_in (map (any.with_parents entity_parents) declared)) are)

    -- each leads from what a parent resolves to
    resolved : HoldsPairwise (IsEdgeOf type_name (ResolvesTo (defined_names bag extensions))) edges
        (parents_in (map (any.with_parents entity_parents) (declared_entities bag)))
    resolved = turn_weaker (IsEdgeOf type_name (NamesType (defined_names bag extensions))) (IsEdgeOf type_name (ResolvesTo (defined_names bag extensions)))
        (λ edge it is. (is.0, is.1.1)) edges (parents_in (map (any.with_parents entity_parents) (declared_entities bag))) in_bag

    -- each parent in the bag resolves
    pub parent_resolves : (name : PlainName) (reference : Reference) → IsParent bag name reference
        → (upper : PlainName) × ResolvesTo (defined_names bag extensions) reference upper
    parent_resolves name reference parent =
        let all = parents_in (map (any.with_parents entity_parents) (declared_entities bag)) in
        let IsOf = IsEdgeOf type_name (ResolvesTo (defined_names bag extensions)) in
        let back = turn_back IsOf (λ it edge. IsOf edge it) (λ edge it is. is) edges all resolved in
        let found = turn_forth (λ it edge. IsOf edge it) all edges back (name, reference)
        (any.parent_to entity_parents (declared_entities bag) name reference parent) in
        (type_name found.0.0, found.2.1)

    -- the upper entity type of an edge is what a parent of the lower refers to, as an entity type
    pub edge_names : (upper lower : EntityType) → IsAbove edges upper lower
        → (reference : Reference) × IsParent bag (type_name lower) reference
        × NamesType (defined_names bag extensions) reference (type_name upper)
    edge_names = any.edge_has_parent (entity_type_eq.ghosts).eq type_name entity_type_eq-same entity_parents
        (NamesType (defined_names bag extensions)) (declared_entities bag) edges in_bag

    -- the upper entity type of an edge is a parent of the lower
    pub edge_has_parent : (upper lower : EntityType) → IsAbove edges upper lower
        → HasParent bag extensions (type_name lower) (type_name upper)
    edge_has_parent = any.edge_has_parent (entity_type_eq.ghosts).eq type_name entity_type_eq-same entity_parents
        (ResolvesTo (defined_names bag extensions)) (declared_entities bag) edges resolved

    -- a parent of an entity type is so by an edge
    pub parent_edge : (lower upper : PlainName) → HasParent bag extensions lower upper → (edge : EntityType × EntityType)
        × Contains edges edge × (type_name edge.0 ≡ upper) × (type_name edge.1 ≡ lower)
    parent_edge = any.parent_edge (entity_type_eq.ghosts).eq type_name entity_type_eq-same entity_parents
        (ResolvesTo (defined_names bag extensions)) (declared_entities bag) edges resolved once

    -- what a chain of edges leads to is a descendant
    pub chain_descends : {upper lower : EntityType} → Chain (IsAbove edges) upper lower
        → IsDescendant bag extensions (type_name lower) (type_name upper)
    chain_descends = any.chain_descends (entity_type_eq.ghosts).eq type_name entity_type_eq-same entity_parents
        (ResolvesTo (defined_names bag extensions)) (declared_entities bag) edges resolved

    -- a chain of edges leads to each descendant
    pub descends_by_chain : {lower upper : PlainName} → IsDescendant bag extensions lower upper → (key : EntityType)
        → upper ≡ type_name key → (ty : EntityType) × (type_name ty ≡ lower) × Chain (IsAbove edges) key ty
    descends_by_chain = any.descends_by_chain (entity_type_eq.ghosts).eq type_name entity_type_eq-same entity_parents
        (ResolvesTo (defined_names bag extensions)) (declared_entities bag) edges resolved once
