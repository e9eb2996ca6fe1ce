-- Entries that are put one after another in the order of their keys.
use Rattle.std.proofs.Common.{◌≡◌, List, [], ◌∷◌, ◌++◌, ap, refl, sym, subst, ◌∙◌, append_assoc}
use Rattle.std.proofs.lemmas.List.{map-append}
use Rattle.std.specs.BTreeMap.{insert_entry}
use Rattle.std.specs.Cmp.{IsTotalOrder}
use Rattle.std.specs.List.Sorted.{IsStrictlySortedBy}
use Rattle.std.specs.Map.{keys_of}
use Rattle.std.specs.declared.cmp.Ordering.{Ordering}
use Rattle.cedar_ast.proofs.Ordered.{above_front, insert_entry-end}

module _ {K X : Type 0} {R : K → K → Ordering} (total : IsTotalOrder R) where
  -- an entry whose key follows in order is put last
  pub put-last : (before : List (K × X)) (k : K) (x : X) (rest : List K) → IsStrictlySortedBy R (keys_of before ++ k ∷ rest)
      → insert_entry R before k x ≡ before ++ (k, x) ∷ []
  put-last before k x rest sorted = insert_entry-end R before k x (above_front total (keys_of before) k rest sorted)

  -- and the keys that follow it stand in order behind it
  pub still_sorted : (before : List (K × X)) (k : K) (x : X) (rest : List K) → IsStrictlySortedBy R (keys_of before ++ k ∷ rest)
      → IsStrictlySortedBy R (keys_of (before ++ (k, x) ∷ []) ++ rest)
  still_sorted before k x rest sorted =
      subst (IsStrictlySortedBy R)
      (sym (ap (λ front. front ++ rest) (map-append (λ entry. entry.0) before ((k, x) ∷ [])) ∙ append_assoc (keys_of before) (k ∷ []) rest))
      sorted

-- lists that make none together are none each
pub both_none : {A : Type 0} (xs ys : List A) → xs ++ ys ≡ [] → (xs ≡ []) × (ys ≡ [])
both_none [] ys e = (refl, e)
both_none (x ∷ xs) ys e = absurd (cc)
