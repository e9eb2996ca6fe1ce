-- Whether something holds of some item of a list, one item after another.
use Rattle.std.proofs.Common.{◌≡◌, ◌<◌, ◌+◌, ◌↔◌, ◌⊎◌, ◌++◌, ℕ, List, [], ◌∷◌, length, take, get_or, Any, Contains, inl, inr, ap, refl, sym, arith}
use Rattle.std.proofs.lemmas.List.{take_more}
use Rattle.std.proofs.lemmas.List.Elements.{Contains-push_cases}
use Rattle.cedar_ast.proofs.Lists.{Contains-cons, Contains-cons_cases}

module _ {A : Type 0} (P : A → Type 0) where
  -- it holds of one that stands in the list
  pub any_of_item : (xs : List A) (x : A) → Contains xs x → P x → Any P xs
  any_of_item xs x among holds = (among.0, x, among.1, among.2, holds)

  -- one of which it holds stands in the list
  pub item_of_any : (xs : List A) → Any P xs → (x : A) × Contains xs x × P x
  item_of_any xs any = (any.1, (any.0, any.2, any.3), any.4)

  -- it holds of none of no items
  pub any_of_none : ¬ Any P []
  any_of_none any = omega (arith, any.2)

  -- it holds of one of a list exactly where it holds of the first or of one of the others
  pub any_cons : (x : A) (xs : List A) → Any P (x ∷ xs) ↔ (P x ⊎ Any P xs)
  any_cons x xs = (
    λ any.
        let item = item_of_any (x ∷ xs) any in
        elim (Contains-cons_cases x xs item.0 item.1) [
          | inl same ↦ inl (rw same item.2)
          | inr later ↦ inr (any_of_item xs item.0 later item.2)
        ],
    elim [
      | inl here ↦ any_of_item (x ∷ xs) x (Contains-cons x xs x (inl refl)) here
      | inr later ↦ let item = item_of_any xs later in any_of_item (x ∷ xs) item.0 (Contains-cons x xs item.0 (inr item.1)) item.2
    ],
  )

  -- where it doesn't hold of the first, the others decide
  pub any_skips : {Whole : Type 0} (x : A) (xs : List A) → Whole ↔ Any P (x ∷ xs) → ¬ P x → Whole ↔ Any P xs
  any_skips x xs so_far fails = (
    λ whole. elim ((any_cons x xs).0 (so_far.0 whole)) [ inl here ↦ absurd (fails here) | inr later ↦ later ],
    λ later. so_far.1 ((any_cons x xs).1 (inr later)),
  )

  -- where it holds of the first, it holds of one
  pub any_finds : {Whole : Type 0} (x : A) (xs : List A) → Whole ↔ Any P (x ∷ xs) → P x → Whole
  any_finds x xs so_far here = so_far.1 ((any_cons x xs).1 (inl here))

  -- where no others are left, it holds of none
  pub any_ends : {Whole : Type 0} (xs : List A) → Whole ↔ Any P xs → xs ≡ [] → ¬ Whole
  any_ends xs so_far none whole = any_of_none (rw none at (so_far.0 whole))

  -- where it holds of none of the first, nor of the next one, it holds of none of these
  pub any_more : (xs : List A) (i : ℕ) (x : A) → i < length xs → x ≡ get_or xs i x → ¬ Any P (take i xs) → ¬ P x
      → ¬ Any P (take (i + 1) xs)
  any_more xs i x within is none fails any =
      let item = item_of_any (take i xs ++ x ∷ []) (rw (take_more xs i x within, ap (λ one. take i xs ++ one ∷ []) (sym is)) at any) in
      elim (Contains-push_cases (take i xs) x item.0 item.1) [
        | inl before ↦ none (any_of_item (take i xs) item.0 before item.2)
        | inr same ↦ fails (rw same item.2)
      ]
