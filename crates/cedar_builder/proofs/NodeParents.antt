-- Parents and descent: as edges, and as declarations have them.
use Rattle.std.proofs.Common.{◌≡◌, ◌↔◌, Bool, IsTrue, List, map, ap, sym, subst, ◌∙◌, refl, Contains}
use Rattle.cedar_ast.proofs.Basics.{Contains-image}
use Rattle.cedar_ast.proofs.Chains.{joined}
use Rattle.cedar_ast.proofs.Lists.{Contains-preimage}
use Rattle.cedar_builder.specs.Words.{Chain, HoldsPairwise, IsEdgeIn, IsEdgeOf, more, one, parents_in}
use Rattle.cedar_schema_semantics.proofs.OccurrenceLemmas.{Contains-flat_map, Contains-given}
use Rattle.cedar_schema_semantics.proofs.TurnLemmas.{turn_back, turn_forth}

module _ {Name Body Reference : Type 0} (parents : Body → List Reference) where
  -- each name with the parents of its declaration
  abbrev pub with_parents : Name × Body → Name × List Reference
  with_parents it = (it.0, parents it.1)

  -- by some declaration the name has the parent
  abbrev pub HasByDeclaration : List (Name × Body) → Name → Reference → Type 0
  HasByDeclaration entries name reference = (body : Body) × Contains entries (name, body) × Contains (parents body) reference

  -- a name and a parent of it are so by one of the declarations
  pub parent_from : (entries : List (Name × Body)) (name : Name) (reference : Reference)
      → Contains (parents_in (map with_parents entries)) (name, reference) → HasByDeclaration entries name reference
  parent_from entries name reference among =
      let it = Contains-flat_map (λ (each : Name × List Reference). map (λ of. (each.0, of)) each.1) (map with_parents entries) (name, reference) among in
      let entry = Contains-preimage with_parents entries it.0 it.1 in
      let found = Contains-preimage (λ of. (it.0.0, of)) it.0.1 (name, reference) it.2 in
      let named : entry.0.0 ≡ name = ap (λ (each : Name × List Reference). each.0) entry.2 ∙ ap (λ (each : Name × Reference). each.0) found.2 in (
        entry.0.1,
        subst (λ each. Contains entries (each, entry.0.1)) named entry.1,
        subst (Contains (parents entry.0.1)) (ap (λ (each : Name × Reference). each.1) found.2)
            (subst (λ each. Contains each found.0) (sym (ap (λ (each : Name × List Reference). each.1) entry.2)) found.1),
      )

  -- a parent of a declaration stands beside its name
  pub parent_to : (entries : List (Name × Body)) (name : Name) (reference : Reference) → HasByDeclaration entries name reference
      → Contains (parents_in (map with_parents entries)) (name, reference)
  parent_to entries name reference (body, among, parent) =
      Contains-given (λ (each : Name × List Reference). map (λ of. (each.0, of)) each.1) (map with_parents entries) (name, parents body)
      (name, reference) (Contains-image with_parents entries (name, body) among)
      (Contains-image (λ of. (name, of)) (parents body) reference parent)

module _ {K Name Body Reference : Type 0} (eq : K → K → Bool) (key_name : K → Name)
    (same_key : (a b : K) → IsTrue (eq a b) ↔ (key_name a ≡ key_name b)) (parents : Body → List Reference)
    (Resolves : Reference → Name → Type 0) (entries : List (Name × Body)) (edges : List (K × K))
    (are : HoldsPairwise (IsEdgeOf key_name Resolves) edges (parents_in (map (with_parents parents) entries))) where
  -- the one has the other as a parent, by some declaration
  abbrev HasParentNamed : Name → Name → Type 0
  HasParentNamed lower upper = (reference : Reference) × HasByDeclaration parents entries lower reference × Resolves reference upper

  -- an edge between keys of the same names is one
  pub edge_above : (edge : K × K) (upper lower : K) → Contains edges edge → key_name edge.0 ≡ key_name upper
      → key_name edge.1 ≡ key_name lower → IsEdgeIn eq edges upper lower
  edge_above edge upper lower among above below =
      (edge, among, (same_key edge.0 upper).1 above, (same_key edge.1 lower).1 below)

  -- the upper end of an edge is a parent of the lower
  pub edge_has_parent : (upper lower : K) → IsEdgeIn eq edges upper lower → HasParentNamed (key_name lower) (key_name upper)
  edge_has_parent upper lower (edge, among, above, below) =
      let all = parents_in (map (with_parents parents) entries) in
      let found = turn_forth (IsEdgeOf key_name Resolves) edges all are edge among in
      let is_lower : found.0.0 ≡ key_name lower = sym found.2.0 ∙ (same_key edge.1 lower).0 below in (
        found.0.1,
        parent_from parents entries (key_name lower) found.0.1 (subst (λ each. Contains all (each, found.0.1)) is_lower found.1),
        subst (Resolves found.0.1) ((same_key edge.0 upper).0 above) found.2.1,
      )

  -- what a chain of edges leads to is a descendant
  pub chain_descends : {upper lower : K} → Chain (IsEdgeIn eq edges) upper lower → Chain HasParentNamed (key_name lower) (key_name upper)
  chain_descends {upper = upper} {lower = lower} (one step) = one (edge_has_parent upper lower step)
  chain_descends {upper = upper} (more {b = between} step rest) =
      joined (chain_descends rest) (one (edge_has_parent upper between step))

  module _ (once : (reference : Reference) (name other : Name) → Resolves reference name → Resolves reference other → name ≡ other) where
    -- a parent is so by an edge
    pub parent_edge : (lower upper : Name) → HasParentNamed lower upper
        → (edge : K × K) × Contains edges edge × (key_name edge.0 ≡ upper) × (key_name edge.1 ≡ lower)
    parent_edge lower upper (reference, parent, names) =
        let all = parents_in (map (with_parents parents) entries) in
        let back = turn_back (IsEdgeOf key_name Resolves) (λ it edge. IsEdgeOf key_name Resolves edge it) (λ edge it is. is) edges all are in
        let found = turn_forth (λ it edge. IsEdgeOf key_name Resolves edge it) all edges back (lower, reference)
        (parent_to parents entries lower reference parent) in
        (found.0, found.1, once reference (key_name found.0.0) upper found.2.1 names, found.2.0)

    -- a chain of edges leads to each descendant
    pub descends_by_chain : {lower upper : Name} → Chain HasParentNamed lower upper → (key : K) → upper ≡ key_name key
        → (found : K) × (key_name found ≡ lower) × Chain (IsEdgeIn eq edges) key found
    descends_by_chain {lower = lower} {upper = upper} (one step) key is =
        let found = parent_edge lower upper step in
        (found.0.1, found.3, one (edge_above found.0 key found.0.1 found.1 (found.2 ∙ is) refl))
    descends_by_chain {lower = lower} (more {b = between} step rest) key is =
        let above = descends_by_chain rest key is in
        let found = parent_edge lower between step in
        let last : Chain (IsEdgeIn eq edges) above.0 found.0.1 = one (edge_above found.0 above.0 found.0.1 found.1 (found.2 ∙ sym above.1) refl) in
        (found.0.1, found.3, joined above.2 last)
