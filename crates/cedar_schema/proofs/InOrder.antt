-- What a loop over a list collects: what each of the items gives, in turn, behind what was there.
use Rattle.std.proofs.Common.{◌≡◌, ℕ, ◌+◌, ◌<◌, ◌≤◌, List, [], ◌∷◌, ◌++◌, map, length, get_or, take, ap, sym, ◌∙◌, refl}
use Rattle.std.proofs.lemmas.List.{flat_map_more, map-append, take_all, take_more}
use Rattle.std.specs.List.{flat_map}

module _ {X A : Type 0} (f : X → List A) (before : List A) (xs : List X) (i : ℕ) where
  -- with what one more item gives
  pub flat_map_next : (x : X) → i < length xs → x ≡ get_or xs i x
      → (before ++ flat_map f (take i xs)) ++ f x ≡ before ++ flat_map f (take (i + 1) xs)
  flat_map_next x lt is =
      flat_map_more f before (take i xs) x
      ∙ ap (λ ys. before ++ flat_map f ys) (ap (λ y. take i xs ++ y ∷ []) is ∙ sym (take_more xs i x lt))

  -- what all items give
  pub flat_map_whole : length xs ≤ i → before ++ flat_map f (take i xs) ≡ before ++ flat_map f xs
  flat_map_whole le = ap (λ ys. before ++ flat_map f ys) (take_all i xs le)

-- what a function gives of each item of several lists, it gives of each list in turn
pub map-flat_map : {X A B : Type 0} (g : A → B) (f : X → List A) (xs : List X) → map g (flat_map f xs) ≡ flat_map (λ x. map g (f x)) xs
map-flat_map g f [] = refl
map-flat_map g f (x ∷ xs) = map-append g (f x) (flat_map f xs) ∙ ap (λ rest. map g (f x) ++ rest) (map-flat_map g f xs)
