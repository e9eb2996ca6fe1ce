-- Whether something holds of each item of a list, one item after another.
use Rattle.std.proofs.Common.{◌≡◌, ◌↔◌, ◌<◌, ℕ, suc, zero, All, List, ◌∷◌, length, map, slice_index_or, arith}
use Rattle.std.proofs.lemmas.List.{length-map}

module _ {A : Type 0} (P : A → Type 0) where
  -- it holds of each image of no items
  pub all_none : {B : Type 0} (f : B → A) (xs : List B) → length xs ≡ 0 → All P (map f xs)
  all_none f xs none k d within = let same = length-map xs f in absurd (omega (arith, within, none, same))

  -- where it holds of the first and of the others, it holds of each
  each : (x : A) (xs : List A) → P x → All P xs → (k : ℕ) (d : A) → k < length (x ∷ xs) → P (slice_index_or (x ∷ xs) k d)
  each x xs first others zero d within = first
  each x xs first others (suc k) d within = others k d (omega (arith, within))

  -- it holds of each of a list exactly where it holds of the first and of each of the others
  pub all_cons : (x : A) (xs : List A) → All P (x ∷ xs) ↔ (P x × All P xs)
  all_cons x xs = (
    λ all. (all 0 x (omega arith), λ k d within. all (suc k) d (omega (arith, within))),
    λ both. each x xs both.0 both.1,
  )
