-- What holds of two lists pairwise.
use Rattle.std.proofs.Common.{List, [], ◌∷◌, refl, inl, inr, arith, Contains}
use Rattle.cedar_ast.proofs.Lists.{Contains-cons, Contains-cons_cases}
use Rattle.cedar_ast.specs.Lists.{HoldsPairwise}

-- what holds of lists in turn holds of each item and another
pub turn_forth : {A B : Type 0} (R : A → B → Type 0) (xs : List A) (ys : List B) → HoldsPairwise R xs ys → (x : A) → Contains xs x
    → (y : B) × Contains ys y × R x y
turn_forth R [] ys turn x among = absurd (omega (arith, among.1))
turn_forth R (x' ∷ xs) [] turn x among = absurd turn
turn_forth {A = A} R (x' ∷ xs) (y ∷ ys) turn x among =
    elim (Contains-cons_cases x' xs x among) [
      | inl here ↦ (y, Contains-cons y ys y (inl refl), rw here at turn.0)
      | inr later ↦
          let found = turn_forth R xs ys turn.1 x later in (found.0, Contains-cons y ys found.0 (inr found.1), found.2)
    ]

-- what holds of lists in turn holds the other way round of those the other way round
pub turn_back : {A B : Type 0} (R : A → B → Type 0) (S : B → A → Type 0) → ((x : A) (y : B) → R x y → S y x) → (xs : List A)
    (ys : List B) → HoldsPairwise R xs ys → HoldsPairwise S ys xs
turn_back R S back [] [] turn = tt
turn_back R S back (x ∷ xs) (y ∷ ys) turn = (back x y turn.0, turn_back R S back xs ys turn.1)
turn_back R S back _ _ turn = absurd turn
