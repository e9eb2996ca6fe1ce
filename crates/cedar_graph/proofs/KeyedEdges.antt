-- Edges of the nodes of a map against the numbers of their targets.
use Rattle.std.proofs.Common.{◌≡◌, ℕ, zero, suc, ◌≤◌, Bool, true, IsTrue, IfSome, IsSome, is_some, IsSomeAnd, List, [], Option, None, Some, Vec, HashMap, length, slice_get, Contains, option_map, refl, sym, ◌∙◌, ap, subst, arith, inl, inr}
use Rattle.std.proofs.lemmas.Map.Entries.{place_from_lookup, lookup_from_place}
use Rattle.std.proofs.lemmas.Option.{slice_get-map, slice_get_cases}
use Rattle.std.specs.Cmp.{IsEquivalence}
use Rattle.std.specs.HashMap.{get, keys, values, IsUnique}
use Rattle.cedar_graph.proofs.Lists.{items_at-past}
use Rattle.cedar_graph.proofs.Numbers.{number_alike, number_same, number_below, get_alike}
use Rattle.cedar_graph.specs.Words.{AreNumbersOf, Chain, HasEdge, IsNumbered, IsTarget, items_at, more, one}

-- what is some value with a property
pub some_with : {X : Type 0} (o : Option X) (P : X → Type 0) → IsSomeAnd o P → (x : X) × (o ≡ Some x) × P x
some_with None P holds = elim holds [ ]
some_with (Some x) P holds = (x, refl, holds)

-- a chain begins at a node
pub begins_at_node : {K V S : Type 0} (eq : K → K → Bool) (has_edge : V → K → Bool) (nodes : HashMap K V S) {a b : K}
    → Chain (HasEdge eq has_edge nodes) a b → IsSome (get eq nodes a)
begins_at_node eq has_edge nodes {a = a} {b = b} (one s) = let it =
    some_with (get eq nodes a) (λ v. IsTrue (has_edge v b)) s in ap is_some it.1
begins_at_node eq has_edge nodes {a = a} (more s rest) = let it = some_with (get eq nodes a) _ s in ap is_some it.1

-- nothing is in the empty list
pub nothing_in_nil : (j : ℕ) → Contains [] j → ⊥
nothing_in_nil j inside = omega (arith, inside.1)

module _ {K V S Z : Type 0} {eq : K → K → Bool} (laws : IsEquivalence eq) (has_edge : V → K → Bool)
    (respect : (node : V) (a b : K) → eq a b ≡ true → has_edge node a ≡ has_edge node b)
    (nodes : HashMap K V S) (unique : IsUnique eq nodes) (names : List K) (targets : List (Vec ℕ Z))
    (in_order : (i : ℕ) → IfSome (slice_get (keys nodes) i) (λ key. IsNumbered eq names key i))
    (are : (i : ℕ) → IfSome (slice_get (values nodes) i)
    (λ node. AreNumbersOf eq names (has_edge node) (items_at targets i)))
    (len : length targets ≡ length nodes.entries) where
  -- the key and the targets of the entry at a place
  at_place : (i : ℕ) (key : K) (node : V) → slice_get nodes.entries i ≡ Some (key, node)
      → IsNumbered eq names key i × AreNumbersOf eq names (has_edge node) (items_at targets i)
  at_place i key node found =
      let at_key : slice_get (keys nodes) i ≡ Some key = slice_get-map (λ e. e.0) nodes.entries i
      ∙ ap (option_map (λ e. e.0)) found in
      let at_node : slice_get (values nodes) i ≡ Some node = slice_get-map (λ e. e.1) nodes.entries i
      ∙ ap (option_map (λ e. e.1)) found in (
        subst (λ o. IfSome o (λ k. IsNumbered eq names k i)) at_key (in_order i),
        subst (λ o. IfSome o (λ v. AreNumbersOf eq names (has_edge v) (items_at targets i))) at_node (are i),
      )

  -- where there are targets there is an entry
  entry_at : (i j : ℕ) → IsTarget targets i j → (e : K × V) × (slice_get nodes.entries i ≡ Some e)
  entry_at i j edge = elim ((slice_get_cases nodes.entries i).1) [
    | inl it ↦ (it.0, it.2)
    | inr past ↦ let over : length targets ≤ i = omega (arith, past.0, len) in
        absurd (nothing_in_nil j (subst (λ xs. Contains xs j) (items_at-past targets i over) edge))
  ]

  -- a step of keys is a step of their numbers
  pub step_of_keys : (a b : K) → HasEdge eq has_edge nodes a b
      → (i : ℕ) × (j : ℕ) × IsNumbered eq names a i × IsNumbered eq names b j × IsTarget targets i j
  step_of_keys a b edge =
      let node = some_with (get eq nodes a) (λ v. IsTrue (has_edge v b)) edge in
      let place = place_from_lookup (eq a) nodes.entries node.0 node.1 in
      let here = at_place place.0 place.1 node.0 place.2 in
      let target = here.1.complete b node.2 in
      (place.0, target.0, number_alike laws names a place.1 place.0 place.3 here.0, target.1, target.2)

  -- each target is the number of a key
  pub target_named : (i j : ℕ) → IsTarget targets i j → (b : K) × IsNumbered eq names b j
  target_named i j edge =
      let entry = entry_at i j edge in
      let here = at_place i entry.0.0 entry.0.1 entry.1 in
      let it = here.1.sound j edge in
      (it.0, it.1)

  -- a step of numbers is a step of the keys that have them
  pub step_of_numbers : (i j : ℕ) (a b : K) → IsTarget targets i j → IsNumbered eq names a i → IsNumbered eq names b j
      → HasEdge eq has_edge nodes a b
  step_of_numbers i j a b edge first last =
      let entry = entry_at i j edge in
      let key = entry.0.0 in
      let node = entry.0.1 in
      let here = at_place i key node entry.1 in
      let it = here.1.sound j edge in
      let found : get eq nodes a ≡ Some node =
      get_alike laws nodes a key (number_same laws names a key i first here.0)
      ∙ lookup_from_place laws nodes.entries i key node unique entry.1 in
      let goes : IsTrue (has_edge node b) = respect node b it.0 (number_same laws names b it.0 j last it.1) ∙ it.2 in
      subst (λ o. IsSomeAnd o (λ v. IsTrue (has_edge v b))) (sym found) goes

-- where each of the keys has the number of its place, there are as many names
pub names_for_all : {K : Type 0} (eq : K → K → Bool) (keys names : List K)
    → ((i : ℕ) → IfSome (slice_get keys i) (λ key. IsNumbered eq names key i))
    → (n : ℕ) → n ≤ length keys → n ≤ length names
names_for_all eq keys names in_order zero few = omega arith
names_for_all eq keys names in_order (suc m) few = elim ((slice_get_cases keys m).1) [
  | inl it ↦ let stands : IsNumbered eq names it.0 m = subst (λ o. IfSome o (λ key. IsNumbered eq names key m)) it.2
      (in_order m) in
      let below = number_below eq names it.0 m stands in
      omega (arith, below)
  | inr past ↦ absurd (omega (arith, past.0))
]
