-- Members with their indices, in whatever order.
use Rattle.std.proofs.Common.{◌≡◌, ◌+◌, ◌<◌, ℕ, sym, ap, subst, ◌∙◌, List, [], ◌∷◌, ◌++◌, All, length, map, take, get_or, add-one}
use Rattle.std.proofs.Math.Seq.{take-suc}
use Rattle.std.proofs.lemmas.List.{map-append}
use Rattle.std.proofs.lemmas.List.Elements.{All-push}
use Rattle.std.proofs.lemmas.List.Sorted.{IsPermutation-map}
use Rattle.std.specs.List.Sorted.{IsPermutation}
use Rattle.cedar_cli.specs.declared.shape.Place.{Place}

-- the index that a place has
abbrev pub index_of : Place → ℕ
index_of place = place.index

-- of places it is given which index each has
module _ {P M : Type 0} (at : P → ℕ) where
  -- the places of so many members: each has the index of its member
  abbrev pub AreIndexed : List M → List P → ℕ → Type 0
  AreIndexed ms places i = ((d : M) → map (λ place. get_or ms (at place) d) places ≡ take i ms) × All (λ place. at place < length ms) places

  -- the place of the next member
  pub indexed_more : (ms : List M) (places : List P) (i : ℕ) (next : P) → at next ≡ i → i < length ms → AreIndexed ms places i
      → AreIndexed ms (places ++ next ∷ []) (i + 1)
  indexed_more ms places i next is within known = (
    (λ d. map-append (λ place. get_or ms (at place) d) places (next ∷ []) ∙ ap (◌++ get_or ms (at next) d ∷ []) (known.0 d)
        ∙ ap (λ n. take i ms ++ get_or ms n d ∷ []) is
        ∙ sym (take-suc ms i d within) ∙ ap (λ n. take n ms) (sym (add-one i))),
    All-push (λ place. at place < length ms) places next known.1 (subst (λ n. n < length ms) (sym is) within),
  )

  -- sorted places have the indices of all members
  pub sorted_order : (ms : List M) (made sorted : List P) → ((d : M) → map (λ place. get_or ms (at place) d) made ≡ ms) → IsPermutation made sorted
      → (d : M) → IsPermutation ms (map (λ place. get_or ms (at place) d) sorted)
  sorted_order ms made sorted whole moved d =
      let f : P → M = λ place. get_or ms (at place) d in
      subst (λ from. IsPermutation from (map f sorted)) (whole d) (IsPermutation-map f made sorted moved)
