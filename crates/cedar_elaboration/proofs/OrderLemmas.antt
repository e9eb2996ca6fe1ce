-- The order of common types, by the order of their indices.
use Rattle.std.proofs.Common.{◌≡◌, ◌<◌, ◌++◌, ℕ, zero, suc, List, [], ◌∷◌, Vec, length, Some, ap, subst, ◌∙◌, refl, inl, Contains, arith, inr}
use Rattle.std.proofs.Math.ListN.{length-map}
use Rattle.std.proofs.lemmas.Option.{slice_get-map, slice_get_within}
use Rattle.std.specs.Option.{option_map}
use Rattle.std.specs.Prelude.{slice_get}
use Rattle.cedar_ast.proofs.Basics.{Contains-image}
use Rattle.cedar_ast.proofs.Lists.{Contains-preimage}
use Rattle.cedar_elaboration.proofs.IndexLemmas.{Contains-at, index_of, index_once}
use Rattle.cedar_elaboration.specs.Words.{AddsIndices, AreIndices, Chain, Expr, HasNoCycle, HoldsPairwise, IsDefined, IsElaborationOrder, IsOrder, LeadsTo, Names, NamesItems, PlainName, Reference, Refers, RefersToCommon, ResolvesTo, Twice, defined_over, item_names, items_at, more, names_of, one}
use Rattle.cedar_schema_semantics.proofs.ResolutionLemmas.{IsFirst-like}

-- what holds pairwise holds of the item at an index and of the list there
turn_at : {A Z : Type 0} (S : A → List ℕ → Type 0) (xs : List A) (vs : List (Vec ℕ Z)) → HoldsPairwise (λ x v. S x v.items) xs vs
    → (i : ℕ) (x : A) → slice_get xs i ≡ Some x → S x (items_at vs i)
unfolding items_at
turn_at S [] vs turns i x is = cc
turn_at S (y ∷ xs) [] turns i x is = absurd turns
turn_at S (y ∷ xs) (v ∷ vs) turns zero x is =
    let same : y ≡ x = cc in
    rw same at turns.0
turn_at S (y ∷ xs) (v ∷ vs) turns (suc i) x is = turn_at S xs vs turns.1 i x is

-- lists of which something holds pairwise are of one length
pub same_length : {A B : Type 0} (R : A → B → Type 0) (xs : List A) (ys : List B) → HoldsPairwise R xs ys → length xs ≡ length ys
same_length R [] [] turns = refl
same_length R (x ∷ xs) (y ∷ ys) turns = ap suc (same_length R xs ys turns.1)
same_length R _ _ turns = absurd turns

-- the name of the item at an index
pub name_at : (items : List (PlainName × Expr)) (i : ℕ) (item : PlainName × Expr) → slice_get items i ≡ Some item
    → slice_get (item_names items) i ≡ Some item.0
name_at items i item is = slice_get-map (λ it. it.0) items i ∙ ap (option_map (λ it. it.0)) is

-- the item that has the name at an index
pub item_at : (items : List (PlainName × Expr)) (i : ℕ) (name : PlainName) → slice_get (item_names items) i ≡ Some name
    → (item : PlainName × Expr) × (slice_get items i ≡ Some item) × (item.0 ≡ name)
item_at [] i name is = cc
item_at (item ∷ items) zero name is = let same : item.0 ≡ name = cc in (item, refl, same)
item_at (item ∷ items) (suc i) name is = item_at items i name is

-- the indices of the common types that each of some definitions refers to
abbrev pub AreTargets : {Z : Type 0} → Names → List (PlainName × ℕ) → List (PlainName × Expr) → List (Vec ℕ Z) → Type 0
AreTargets names indices items targets = HoldsPairwise (λ it found. AddsIndices names indices (Refers it.1) [] found.items) items targets

-- where the common types among some names are those of the items, a reference resolves to the same
-- over what the items define
module _ (names : Names) (items : List (PlainName × Expr)) (same : NamesItems names items) where
  -- what a reference resolves to over the names it resolves to over what is defined
  resolves_over : (reference : Reference) (name : PlainName) → ResolvesTo names reference name
      → ResolvesTo (names_of (defined_over items names)) reference name
  resolves_over reference name =
      IsFirst-like (IsDefined names reference.kind) (IsDefined (names_of (defined_over items names)) reference.kind)
      (λ each defined. elim defined [ inl it ↦ inl (it.0, (same each).0 it.1) | inr it ↦ inr it ])
      (λ each defined. elim defined [ inl it ↦ inl (it.0, (same each).1 it.1) | inr it ↦ inr it ])
      reference.possibilities name

  -- and the other way round
  resolves_among : (reference : Reference) (name : PlainName) → ResolvesTo (names_of (defined_over items names)) reference name
      → ResolvesTo names reference name
  resolves_among reference name =
      IsFirst-like (IsDefined (names_of (defined_over items names)) reference.kind) (IsDefined names reference.kind)
      (λ each defined. elim defined [ inl it ↦ inl (it.0, (same each).1 it.1) | inr it ↦ inr it ])
      (λ each defined. elim defined [ inl it ↦ inl (it.0, (same each).0 it.1) | inr it ↦ inr it ])
      reference.possibilities name

module _ {Z : Type 0} (names : Names) (items : List (PlainName × Expr)) (indices : List (PlainName × ℕ)) (targets : List (Vec ℕ Z))
    (numbered : AreIndices (item_names items) indices) (turns : AreTargets names indices items targets) where
  -- as many items as lists of targets
  pub as_many : length items ≡ length targets
  as_many = same_length (λ it found. AddsIndices names indices (Refers it.1) [] found.items) items targets turns

  -- what the item at an index refers to
  pub targets_at : (i : ℕ) (item : PlainName × Expr) → slice_get items i ≡ Some item
      → AddsIndices names indices (Refers item.1) [] (items_at targets i)
  targets_at i item is = turn_at (λ it found. AddsIndices names indices (Refers it.1) [] found) items targets turns i item is

  -- an index that an item leads to is that of a common type that its definition refers to
  edge_forth : NamesItems names items → (i j : ℕ) (name : PlainName) → slice_get (item_names items) i ≡ Some name
      → LeadsTo targets i j
      → (other : PlainName) × (slice_get (item_names items) j ≡ Some other) × RefersToCommon (defined_over items names) name other
  edge_forth among i j name is leads =
      let item = item_at items i name is in
      elim ((targets_at i item.0 item.1).only j leads.0) [
        | inl none ↦ absurd (omega (arith, none.1))
        | inr it ↦
            let reference = it.0 in
            let may = it.2.0 in
            let other = it.2.1 in
            let stands : slice_get (item_names items) j ≡ Some other = numbered.sound other j it.2.3 in
            let in_names : Contains (item_names items) other = Contains-at (item_names items) j other stands in
            let body = Contains-preimage (λ each. each.0) items other in_names in
            let DefinesBody : PlainName → Type 0 = λ each. Contains items (each, body.0.1) in
            let DefinesItem : PlainName → Type 0 = λ each. Contains items (each, item.0.1) in (
              other,
              stands,
              (
                item.0.1,
                reference,
                body.0.1,
                subst DefinesItem item.2 (Contains-at items i item.0 item.1),
                it.1,
                resolves_over names items among reference other it.2.2,
                (may, subst DefinesBody body.2 body.1),
              ),
            )
      ]

  -- where a definition refers to a common type, its place leads to that one's
  edge_back : NamesItems names items → (name other : PlainName) → RefersToCommon (defined_over items names) name other
      → (i j : ℕ) × (slice_get (item_names items) i ≡ Some name) × (slice_get (item_names items) j ≡ Some other)
      × LeadsTo targets i j
  edge_back among name other refers =
      let reference = refers.1 in
      let at = index_of items (name, refers.0) refers.3 in
      let in_names : Contains (item_names items) other = Contains-image (λ each. each.0) items (other, refers.2) refers.6.1 in
      let found = (targets_at at.0 (name, refers.0) at.1).each reference refers.4 refers.6.0 other
      (resolves_among names items among reference other refers.5) (numbered.each other in_names) in
      let stands : slice_get (item_names items) found.0 ≡ Some other = numbered.sound other found.0 found.1 in
      let within : found.0 < length (item_names items) = slice_get_within (item_names items) found.0 other stands in (
        at.0,
        found.0,
        name_at items at.0 (name, refers.0) at.1,
        stands,
        (found.2, rw (length-map items (λ it. it.0), as_many) at within),
      )

  -- a chain of indices is one of common types
  chain_forth : NamesItems names items → (i j : ℕ) (name other : PlainName) → slice_get (item_names items) i ≡ Some name
      → slice_get (item_names items) j ≡ Some other → Chain (LeadsTo targets) i j
      → Chain (RefersToCommon (defined_over items names)) name other
  chain_forth among i j name other is is' (one step) =
      let it = edge_forth among i j name is step in
      let same : it.0 ≡ other = cc in
      one (rw same at it.2)
  chain_forth among i j name other is is' (more {b = k} step rest) =
      let it = edge_forth among i k name is step in
      more it.2 (chain_forth among k j it.0 other it.1 is' rest)

  -- an index that is on a cycle is that of a common type that is
  pub cycle_found : (i : ℕ) (name : PlainName) → slice_get (item_names items) i ≡ Some name → Chain (LeadsTo targets) i i
      → NamesItems names items → Chain (RefersToCommon (defined_over items names)) name name
  cycle_found i name is chain among = chain_forth among i i name name is is chain

  module _ (once : (name : PlainName) → ¬ Twice (item_names items) name) where
    -- a chain of common types is one of indices
    chain_back : NamesItems names items → (name other : PlainName) → Chain (RefersToCommon (defined_over items names)) name other
        → (i j : ℕ) × (slice_get (item_names items) i ≡ Some name) × (slice_get (item_names items) j ≡ Some other)
        × Chain (LeadsTo targets) i j
    chain_back among name other (one step) =
        let it = edge_back among name other step in (it.0, it.1, it.2, it.3, one it.4)
    chain_back among name other (more {b = middle} step rest) =
        let it = edge_back among name middle step in
        let onwards = chain_back among middle other rest in
        let same : it.1 ≡ onwards.0 = index_once (item_names items) once it.1 onwards.0 middle it.3 onwards.2 in
        (it.0, onwards.1, it.2, onwards.3, more (rw same at it.4) onwards.4)

    -- where no index is on a cycle, no common type does
    pub no_cycle_among : ((i : ℕ) → ¬ Chain (LeadsTo targets) i i) → HasNoCycle names items
    no_cycle_among none among name chain =
        let it = chain_back among name name chain in
        let same : it.0 ≡ it.1 = index_once (item_names items) once it.0 it.1 name it.2 it.3 in
        none it.0 (rw (← same) at it.4)

  -- an order of the indices is one of the common types
  pub order_of_indices : (order : List ℕ) → IsOrder targets order → IsElaborationOrder names items order
  order_of_indices order in_order =
      record {
        indices = rw as_many in_order.each;
        after = λ before rest item_index item split is reference refers may name resolves in_names.
            let found = (targets_at item_index item is).each reference refers may name resolves (numbered.each name in_names) in
            let stands : slice_get (item_names items) found.0 ≡ Some name = numbered.sound name found.0 found.1 in
            let within : found.0 < length (item_names items) = slice_get_within (item_names items) found.0 name stands in (
              found.0,
              in_order.after before rest item_index found.0 split
                  (found.2, rw (length-map items (λ it. it.0), as_many) at within),
              stands,
            );
      }

-- what holds pairwise holds pairwise of one item more on each side
pub HoldsPairwise-push : {A B : Type 0} (R : A → B → Type 0) (xs : List A) (ys : List B) (x : A) (y : B) → HoldsPairwise R xs ys
    → R x y → HoldsPairwise R (xs ++ x ∷ []) (ys ++ y ∷ [])
HoldsPairwise-push R [] [] x y turns last = (last, tt)
HoldsPairwise-push R (first ∷ xs) (other ∷ ys) x y turns last = (turns.0, HoldsPairwise-push R xs ys x y turns.1 last)
HoldsPairwise-push R _ _ x y turns last = absurd turns
