-- The first possibility that is defined.
use Rattle.std.proofs.Common.{◌≡◌, ℕ, ◌+◌, ◌<◌, List, [], ◌∷◌, ◌++◌, map, ap, sym, subst, ◌∙◌, refl, inl, inr, length, get_or, take, drop, drop-cons, suc, Contains, arith}
use Rattle.std.proofs.lemmas.List.{map-append, map_more, take-append-drop}
use Rattle.std.specs.List.{AllByRecursion}
use Rattle.cedar_ast.proofs.Lists.{Contains-cons_cases}
use Rattle.cedar_name_resolution.proofs.EachLemmas.{AllByRecursion-append}
use Rattle.cedar_schema_semantics.specs.Occurrences.{IsFirst}

module _ {A B : Type 0} (P : B → Type 0) (f : A → B) where
  -- after items of which it doesn't hold, the fact holds first of the next of which it does
  first_after : (xs : List B) (x : B) (ys : List B) → AllByRecursion (λ other. ¬ P other) xs → P x → IsFirst P (xs ++ x ∷ ys) x
  first_after [] x ys none holds = inl (refl, holds)
  first_after (other ∷ xs) x ys none holds = inr (none.0, first_after xs x ys none.1 holds)

  -- the fact holds first of what an item gives, where it holds of what none before it gives
  pub first_at : (first : A) (items : List A) (i : ℕ) (item : A) → i < length items → item ≡ get_or items i item
      → ¬ P (f first) → AllByRecursion (λ other. ¬ P other) (map f (take i items)) → P (f item) → IsFirst P (f first ∷ map f items) (f item)
  first_at first items i item lt is not_first none holds =
      let split : map f items ≡ map f (take i items) ++ f item ∷ map f (drop (suc i) items) =
      ap (map f) (sym (take-append-drop i items) ∙ ap (λ rest. take i items ++ rest) (drop-cons items i item lt))
      ∙ (map-append f (take i items) (get_or items i item ∷ drop (suc i) items)
      ∙ ap (λ each. map f (take i items) ++ f each ∷ map f (drop (suc i) items)) (sym is)) in
      inr (not_first, rw split (first_after (map f (take i items)) (f item) (map f (drop (suc i) items)) none holds))

  -- one more of which it doesn't hold
  pub none_more : (items : List A) (i : ℕ) (item : A) → i < length items → item ≡ get_or items i item → ¬ P (f item)
      → AllByRecursion (λ other. ¬ P other) (map f (take i items)) → AllByRecursion (λ other. ¬ P other) (map f (take (i + 1) items))
  none_more items i item lt is not_it none =
      rw (ap (λ each. map f (take i items) ++ f each ∷ []) is, ← map_more f items i item lt) at
      (AllByRecursion-append (λ other. ¬ P other) (map f (take i items)) (f item ∷ []) none (not_it, tt))

-- of the items before those that are left the fact holds of none, so that what is left decides of
-- which of all it holds first
pub record IsLeftToTest {B : Type 0} (P : B → Type 0) (all left : List B) : Type 0 where
  pub first : (x : B) → IsFirst P left x → IsFirst P all x
  pub none : ((x : B) → Contains left x → ¬ P x) → (x : B) → Contains all x → ¬ P x

module _ {B : Type 0} (P : B → Type 0) where
  -- at first all are left
  pub all_left : (all : List B) → IsLeftToTest P all all
  all_left all = record { first = λ x first. first; none = λ none. none }

  -- one fewer is left where it doesn't hold of the next
  pub one_fewer_left : (all left rest : List B) (x : B) → left ≡ x ∷ rest → ¬ P x → IsLeftToTest P all left → IsLeftToTest P all rest
  one_fewer_left all left rest x is not_it so_far =
      record {
        first = λ y first. so_far.first y (subst (λ each. IsFirst P each y) (sym is) (inr (not_it, first)));
        none = λ none. so_far.none (λ y among. elim (Contains-cons_cases x rest y (subst (λ each. Contains each y) is among)) [
          | inl here ↦ subst (λ each. ¬ P each) here not_it
          | inr later ↦ none y later
        ]);
      }

  -- where it holds of the next, it holds first of that
  pub next_is_first : (all left rest : List B) (x : B) → left ≡ x ∷ rest → P x → IsLeftToTest P all left → IsFirst P all x
  next_is_first all left rest x is holds so_far = so_far.first x (subst (λ each. IsFirst P each x) (sym is) (inl (refl, holds)))

  -- where nothing is left, it holds of none
  pub nothing_left : (all left : List B) → left ≡ [] → IsLeftToTest P all left → (x : B) → Contains all x → ¬ P x
  nothing_left all left is so_far = so_far.none (λ x among. absurd (omega (arith, (subst (λ each. Contains each x) is among).1)))
