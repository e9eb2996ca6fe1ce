-- Strict orders, and lists in one, seen through a function.
use Rattle.std.proofs.Common.{◌≡◌, List, [], ◌∷◌, ◌++◌, map, ap, sym, ◌∙◌, refl}
use Rattle.std.specs.BTreeMap.{insert_entry}
use Rattle.std.specs.Cmp.{IsTotalOrder}
use Rattle.std.specs.List.{AllByRecursion}
use Rattle.std.specs.List.Sorted.{IsStrictlySortedBy}
use Rattle.std.specs.Map.{keys_of}
use Rattle.std.specs.Ordering.{ordering_reverse}
use Rattle.std.specs.declared.cmp.Ordering.{Ordering}
use Rattle.std.specs.declared.cmp.Ordering.TheVariants.{Less, Greater}

-- of two values not each is below the other
pub apart : {B : Type 0} (R : B → B → Ordering) → IsTotalOrder R → (x y : B) → R x y ≡ Less → ¬ (R y x ≡ Less)
apart R total x y less also =
    let greater : R x y ≡ Greater = total.antisymm x y ∙ ap ordering_reverse also in
    cc

-- no value is below itself
pub not_itself : {B : Type 0} (R : B → B → Ordering) → IsTotalOrder R → (x y : B) → x ≡ y → ¬ (R x y ≡ Less)
not_itself R total x y same less =
    let again : R x x ≡ Less = rw (← same) at less in
    apart R total x x again again

module _ {K L : Type 0} (R : K → K → Ordering) (S : L → L → Ordering) (f : K → L) (same : (a b : K) → R a b ≡ S (f a) (f b)) where
  below-map : (k : K) (ks : List K) → AllByRecursion (λ other. R k other ≡ Less) ks
      → AllByRecursion (λ other. S (f k) other ≡ Less) (map f ks)
  below-map k [] all = tt
  below-map k (first ∷ rest) all = (sym (same k first) ∙ all.0, below-map k rest all.1)

  -- where f keeps the order, a list in order is in order as f sees it
  pub IsStrictlySortedBy-map : (ks : List K) → IsStrictlySortedBy R ks → IsStrictlySortedBy S (map f ks)
  unfolding IsStrictlySortedBy
  IsStrictlySortedBy-map [] sorted = tt
  IsStrictlySortedBy-map (k ∷ ks) sorted = (below-map k ks sorted.0, IsStrictlySortedBy-map ks sorted.1)

-- what holds of each item holds of one in the middle
pub AllByRecursion-middle : {K : Type 0} (P : K → Type 0) (front : List K) (x : K) (back : List K)
    → AllByRecursion P (front ++ x ∷ back) → P x
AllByRecursion-middle P [] x back h = h.0
AllByRecursion-middle P (y ∷ front) x back h = AllByRecursion-middle P front x back h.1

-- in a sorted list without duplicates, an item is above each of those before it
pub above_front : {K : Type 0} {R : K → K → Ordering} → IsTotalOrder R → (front : List K) (x : K) (back : List K)
    → IsStrictlySortedBy R (front ++ x ∷ back) → AllByRecursion (λ y. R x y ≡ Greater) front
unfolding IsStrictlySortedBy
above_front total [] x back h = tt
above_front {R = R} total (y ∷ front) x back h = (
  total.antisymm x y ∙ ap ordering_reverse (AllByRecursion-middle (λ z. R y z ≡ Less) front x back h.0),
  above_front
      total front x back h.1,
)

-- a key above all others is inserted at the end
pub insert_entry-end : {K X : Type 0} (R : K → K → Ordering) (entries : List (K × X)) (key : K) (value : X)
    → AllByRecursion (λ other. R key other ≡ Greater) (keys_of entries) → insert_entry R entries key value ≡ entries ++ (key, value) ∷ []
insert_entry-end R [] key value above = refl
insert_entry-end R (entry ∷ rest) key value above =
    rw above.0 (ap (λ entries. entry ∷ entries) (insert_entry-end R rest key value above.1))
