-- Lists that agree pairwise.
use Rattle.std.proofs.Common.{◌≡◌, List, [], ◌∷◌, map, inl, inr, refl, Contains}
use Rattle.cedar_ast.proofs.Lists.{Contains-cons}
use Rattle.cedar_ast.specs.Lists.{HoldsPairwise}
use Rattle.cedar_schema_semantics.proofs.TurnLemmas.{turn_back, turn_forth}

-- where two lists have the same keys in turn, what holds of each two items of one key holds
-- pairwise
pub pairwise : {A B P : Type 0} (R : A → B → Type 0) (f : A → P) (g : B → P) (xs : List A) (ys : List B) → map f xs ≡ map g ys
    → ((x : A) (y : B) → Contains xs x → Contains ys y → f x ≡ g y → R x y) → HoldsPairwise R xs ys
pairwise R f g [] [] same each = tt
pairwise R f g [] (y ∷ ys) same each = cc
pairwise R f g (x ∷ xs) [] same each = cc
pairwise R f g (x ∷ xs) (y ∷ ys) same each =
    let first : f x ≡ g y = cc in
    let rest : map f xs ≡ map g ys = cc in (
      each x y (Contains-cons x xs x (inl refl)) (Contains-cons y ys y (inl refl)) first,
      pairwise R f g xs ys rest (λ a b among also. each a b (Contains-cons x xs a (inr among)) (Contains-cons y ys b (inr also))),
    )

-- what holds pairwise of what items give holds of the lists of these
pub pairwise_map : {A B C D : Type 0} (R : C → D → Type 0) (f : A → C) (g : B → D) (xs : List A) (ys : List B)
    → HoldsPairwise (λ x y. R (f x) (g y)) xs ys → HoldsPairwise R (map f xs) (map g ys)
pairwise_map R f g [] [] holds = tt
pairwise_map R f g (x ∷ xs) (y ∷ ys) holds = (holds.0, pairwise_map R f g xs ys holds.1)
pairwise_map R f g _ _ holds = absurd holds

-- where two lists agree pairwise, each item of the second has one of the first
pub pairwise_back : {A B : Type 0} (R : A → B → Type 0) (xs : List A) (ys : List B) → HoldsPairwise R xs ys → (y : B)
    → Contains ys y → (x : A) × Contains xs x × R x y
pairwise_back R xs ys holds = turn_forth (λ y x. R x y) ys xs (turn_back R (λ y x. R x y) (λ x y is. is) xs ys holds)

-- what holds pairwise, one after the other, holds pairwise
pub pairwise_joined : {A B C : Type 0} (R : A → B → Type 0) (S : B → C → Type 0) (T : A → C → Type 0)
    → ((x : A) (y : B) (z : C) → R x y → S y z → T x z) → (xs : List A) (ys : List B) (zs : List C)
    → HoldsPairwise R xs ys → HoldsPairwise S ys zs → HoldsPairwise T xs zs
pairwise_joined R S T step [] [] [] first second = tt
pairwise_joined R S T step (x ∷ xs) (y ∷ ys) (z ∷ zs) first second =
    (step x y z first.0 second.0, pairwise_joined R S T step xs ys zs first.1 second.1)
pairwise_joined R S T step _ _ _ first second = absurd assumption
