-- What holds of two lists pairwise.
use Rattle.std.proofs.Common.{◌++◌, List, [], ◌∷◌, None, Option, Some}
use Rattle.cedar_ast.specs.Lists.{HoldsOfBoth, HoldsPairwise}

module _ {A B : Type 0} (R : A → B → Type 0) where
  -- it holds of one more of both
  pub turn_more : (xs : List A) (ys : List B) (x : A) (y : B) → HoldsPairwise R xs ys → R x y → HoldsPairwise R (xs ++ x ∷ []) (ys ++ y ∷ [])
  turn_more [] [] x y turn here = (here, tt)
  turn_more (first ∷ xs) (other ∷ ys) x y turn here = (turn.0, turn_more xs ys x y turn.1 here)
  turn_more _ _ _ _ turn _ = absurd turn

-- where a relation implies another, so it does in turn
pub turn_weaker : {A B : Type 0} (R S : A → B → Type 0) → ((x : A) (y : B) → R x y → S x y) → (xs : List A) (ys : List B)
    → HoldsPairwise R xs ys → HoldsPairwise S xs ys
turn_weaker R S to [] [] turn = tt
turn_weaker R S to (x ∷ xs) (y ∷ ys) turn = (to x y turn.0, turn_weaker R S to xs ys turn.1)
turn_weaker R S to _ _ turn = absurd turn

-- and so it does of two things that are both there, or neither is
pub both_weaker : {A B : Type 0} (R S : A → B → Type 0) → ((x : A) (y : B) → R x y → S x y) → (a : Option A) (b : Option B)
    → HoldsOfBoth R a b → HoldsOfBoth S a b
both_weaker R S to None None both = tt
both_weaker R S to (Some x) (Some y) both = to x y both
both_weaker R S to _ _ both = absurd both
