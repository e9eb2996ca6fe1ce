-- Lists in strict order.
use Rattle.std.proofs.Common.{◌≡◌, List, [], ◌∷◌, ◌++◌, inl, inr, refl, Contains}
use Rattle.std.specs.List.{AllByRecursion}
use Rattle.std.specs.List.Sorted.{IsStrictlySortedBy}
use Rattle.std.specs.declared.cmp.Ordering.{Ordering}
use Rattle.std.specs.declared.cmp.Ordering.TheVariants.{Less}
use Rattle.cedar_ast.proofs.Lists.{Contains-cons}

module _ {A : Type 0} where
  -- what holds of each of two lists holds of both together
  all_append : (P : A → Type 0) (xs ys : List A) → AllByRecursion P xs → AllByRecursion P ys → AllByRecursion P (xs ++ ys)
  all_append P [] ys all others = others
  all_append P (x ∷ xs) ys all others = (all.0, all_append P xs ys all.1 others)

  -- what holds of each item holds of those that are left without one in the middle
  all_without : (P : A → Type 0) (front : List A) (x : A) (back : List A) → AllByRecursion P (front ++ x ∷ back)
      → AllByRecursion P (front ++ back)
  all_without P [] x back all = all.1
  all_without P (first ∷ front) x back all = (all.0, all_without P front x back all.1)

  -- what holds of each member holds by recursion
  all_of : (P : A → Type 0) (xs : List A) → ((x : A) → Contains xs x → P x) → AllByRecursion P xs
  all_of P [] each = tt
  all_of P (x ∷ xs) each = (each x (Contains-cons x xs x (inl refl)), all_of P xs (λ y among. each y (Contains-cons x xs y (inr among))))

  module _ (R : A → A → Ordering) where
    -- a list in order stays so without one in the middle
    pub sorted_without : (front : List A) (x : A) (back : List A) → IsStrictlySortedBy R (front ++ x ∷ back)
        → IsStrictlySortedBy R (front ++ back)
    unfolding IsStrictlySortedBy
    sorted_without [] x back sorted = sorted.1
    sorted_without (first ∷ front) x back sorted =
        (all_without (λ y. R first y ≡ Less) front x back sorted.0, sorted_without front x back sorted.1)

    -- two lists in order, the one below the other, are in order together
    pub sorted_append : (xs ys : List A) → IsStrictlySortedBy R xs → IsStrictlySortedBy R ys
        → ((x y : A) → Contains xs x → Contains ys y → R x y ≡ Less) → IsStrictlySortedBy R (xs ++ ys)
    unfolding IsStrictlySortedBy
    sorted_append [] ys sorted others below = others
    sorted_append (x ∷ xs) ys sorted others below = (
      all_append (λ y. R x y ≡ Less) xs ys sorted.0
          (all_of (λ y. R x y ≡ Less) ys (λ y among. below x y (Contains-cons x xs x (inl refl)) among)),
      sorted_append xs ys sorted.1 others (λ z y among. below z y (Contains-cons x xs z (inr among))),
    )
