-- Items that stand at one place or two of a list.
use Rattle.std.proofs.Common.{◌≡◌, ◌≢◌, ◌⊎◌, ◌||◌, zero, suc, Bool, true, false, List, [], ◌∷◌, ◌++◌, map, ap, sym, subst, ◌∙◌, refl, inl, inr, arith, Contains, AllPairs}
use Rattle.std.proofs.lemmas.Bool.{false≢true}
use Rattle.std.proofs.lemmas.Bool.Decides.{Decides-like}
use Rattle.std.proofs.lemmas.List.Elements.{All-contains, All-contains_itself, All-from_recursion, All-filter, filter_passes, Contains-append_left, Contains-append_right, Contains-append_cases}
use Rattle.std.specs.Bool.{Decides}
use Rattle.std.specs.Cmp.{IsTotalOrder}
use Rattle.std.specs.List.{filter, flat_map, list_any}
use Rattle.std.specs.List.Sorted.{IsStrictlySortedBy}
use Rattle.std.specs.Ordering.{is_eq}
use Rattle.std.specs.declared.cmp.Ordering.{Ordering}
use Rattle.std.specs.declared.cmp.Ordering.TheVariants.{Less, Equal, Greater}
use Rattle.cedar_ast.proofs.Basics.{Contains-image}
use Rattle.cedar_ast.proofs.Lists.{Contains-cons, Contains-cons_cases, Contains-preimage}
use Rattle.cedar_ast.proofs.Ordered.{not_itself}
use Rattle.cedar_ast.proofs.PlainNames.{name_cmp-Equal, uid_cmp-Equal}
use Rattle.cedar_schema_semantics.specs.Words.{PlainName, PlainUid, Twice, name_cmp, uid_cmp}

-- no item stands twice in a list without repeats
pub Twice-distinct : {A : Type 0} (xs : List A) (x : A) → AllPairs (λ a b. a ≢ b) xs → ¬ Twice xs x
Twice-distinct [] x distinct twice = twice
Twice-distinct (first ∷ rest) x distinct twice =
    elim twice [
      | inl here ↦ distinct zero (suc here.1.0) x (omega arith) (omega (arith, here.1.1)) (here.0 ∙ sym here.1.2)
      | inr later ↦
          Twice-distinct rest x (λ i j d below within. distinct (suc i) (suc j) d (omega (arith, below)) (omega (arith, within))) later
    ]

-- an item that stands twice in two lists together stands twice in one of them, or in both
pub Twice-append : {A : Type 0} (xs ys : List A) (x : A) → Twice (xs ++ ys) x → Twice xs x ⊎ (Twice ys x ⊎ (Contains xs x × Contains ys x))
Twice-append [] ys x twice = inr (inl twice)
Twice-append (first ∷ rest) ys x twice =
    elim twice [
      | inl here ↦
          elim (Contains-append_cases rest ys x here.1) [
            | inl there ↦ inl (inl (here.0, there))
            | inr there ↦ inr (inr (Contains-cons first rest x (inl here.0), there))
          ]
      | inr later ↦
          elim (Twice-append rest ys x later) [
            | inl one ↦ inl (inr one)
            | inr others ↦
                elim others [ inl one ↦ inr (inl one) | inr both ↦ inr (inr (Contains-cons first rest x (inr both.0), both.1)) ]
          ]
    ]

-- a key of some entries has a value among them
pub Contains-entry : {K V : Type 0} (entries : List (K × V)) (key : K) → Contains (map (λ (it : K × V). it.0) entries) key
    → (value : V) × Contains entries (key, value)
Contains-entry {K} {V} entries key has =
    let found = Contains-preimage (λ (it : K × V). it.0) entries key has in
    (found.0.1, subst (λ each. Contains entries (each, found.0.1)) found.2 found.1)

-- what stands in the lists that some items give stands in one of them
pub Contains-flat_map : {A B : Type 0} (f : A → List B) (xs : List A) (y : B) → Contains (flat_map f xs) y → (x : A)
    × Contains xs x × Contains (f x) y
Contains-flat_map f [] y among = absurd (omega (arith, among.1))
Contains-flat_map f (first ∷ rest) y among =
    elim (Contains-append_cases (f first) (flat_map f rest) y among) [
      | inl here ↦ (first, Contains-cons first rest first (inl refl), here)
      | inr later ↦
          let found = Contains-flat_map f rest y later in (found.0, Contains-cons first rest found.0 (inr found.1), found.2)
    ]

-- what an item gives stands in the lists that all give
pub Contains-given : {A B : Type 0} (f : A → List B) (xs : List A) (x : A) (y : B) → Contains xs x → Contains (f x) y
    → Contains (flat_map f xs) y
Contains-given f [] x y among given = absurd (omega (arith, among.1))
Contains-given {A = A} f (first ∷ rest) x y among given =
    elim (Contains-cons_cases first rest x among) [
      | inl here ↦ Contains-append_left (f first) (flat_map f rest) y (rw here given)
      | inr later ↦ Contains-append_right (f first) (flat_map f rest) y (Contains-given f rest x y later given)
    ]

-- an item passes a test where some does
pub any_of : {A : Type 0} (p : A → Bool) (xs : List A) (x : A) → Contains xs x → p x ≡ true → list_any p xs ≡ true
any_of p [] x among passes = absurd (omega (arith, among.1))
any_of p (first ∷ rest) x among passes =
    elim (Contains-cons_cases first rest x among) [
      | inl here ↦ first_passes (p first) (list_any p rest) (ap p here ∙ passes)
      | inr later ↦ later_passes (p first) (list_any p rest) (any_of p rest x later passes)
    ]
  where
    first_passes : (a b : Bool) → a ≡ true → (a || b) ≡ true
    first_passes true b is = refl
    first_passes false b is = absurd (false≢true is)

    later_passes : (a b : Bool) → b ≡ true → (a || b) ≡ true
    later_passes true b is = refl
    later_passes false b is = is

-- where some item passes a test there is one
pub some_of : {A : Type 0} (p : A → Bool) (xs : List A) → list_any p xs ≡ true → (x : A) × Contains xs x × (p x ≡ true)
some_of {A = A} p [] passes = absurd (false≢true passes)
some_of {A = A} p (first ∷ rest) passes = by (p first) refl passes (λ later. some_of p rest later) where
  by : (answer : Bool) → p first ≡ answer → (answer || list_any p rest) ≡ true
      → (list_any p rest ≡ true → (x : A) × Contains rest x × (p x ≡ true)) → (x : A) × Contains (first ∷ rest) x × (p x ≡ true)
  by true is passes later = (first, Contains-cons first rest first (inl refl), is)
  by false is passes later = let found = later passes in (found.0, Contains-cons first rest found.0 (inr found.1), found.2)

-- a test for a tie decides whether there is one
ties : (o : Ordering) → Decides (is_eq o) (o ≡ Equal)
ties Less = (λ e. cc, λ e. cc)
ties Equal = (λ e. refl, λ e. refl)
ties Greater = (λ e. cc, λ e. cc)

-- tests of names decide
pub name_test : (a b : PlainName) → Decides (is_eq (name_cmp a b)) (a ≡ b)
name_test a b = Decides-like _ (name_cmp-Equal a b).0 (name_cmp-Equal a b).1 (ties (name_cmp a b))

-- tests of uids decide
pub uid_test : (a b : PlainUid) → Decides (is_eq (uid_cmp a b)) (a ≡ b)
uid_test a b = Decides-like _ (uid_cmp-Equal a b).0 (uid_cmp-Equal a b).1 (ties (uid_cmp a b))

-- what stands twice in the first of two lists stands twice in both together
pub Twice-left : {A : Type 0} (xs ys : List A) (x : A) → Twice xs x → Twice (xs ++ ys) x
Twice-left [] ys x twice = absurd twice
Twice-left (first ∷ rest) ys x twice =
    elim twice [ inl here ↦ inl (here.0, Contains-append_left rest ys x here.1) | inr later ↦ inr (Twice-left rest ys x later) ]

-- and in the second
pub Twice-right : {A : Type 0} (xs ys : List A) (x : A) → Twice ys x → Twice (xs ++ ys) x
Twice-right [] ys x twice = twice
Twice-right (first ∷ rest) ys x twice = inr (Twice-right rest ys x twice)

-- what stands in each of two lists stands twice in both together
pub Twice-both : {A : Type 0} (xs ys : List A) (x : A) → Contains xs x → Contains ys x → Twice (xs ++ ys) x
Twice-both [] ys x among among' = absurd (omega (arith, among.1))
Twice-both (first ∷ rest) ys x among among' =
    elim (Contains-cons_cases first rest x among) [
      | inl here ↦ inl (here, Contains-append_right rest ys x among')
      | inr later ↦ inr (Twice-both rest ys x later among')
    ]

-- two values of a key are one, or the key stands twice
pub two_values : {K V : Type 0} (entries : List (K × V)) (key : K) (value other : V) → Contains entries (key, value)
    → Contains entries (key, other) → (value ≡ other) ⊎ Twice (map (λ entry. entry.0) entries) key
two_values [] key value other among among' = absurd (omega (arith, among.1))
two_values (first ∷ rest) key value other among among' =
    elim (Contains-cons_cases first rest (key, value) among) [
      | inl here ↦
          elim (Contains-cons_cases first rest (key, other) among') [
            | inl here' ↦ inl (ap (λ entry. entry.1) (sym here ∙ here'))
            | inr later' ↦ inr (inl (ap (λ entry. entry.0) here, Contains-image (λ entry. entry.0) rest (key, other) later'))
          ]
      | inr later ↦
          elim (Contains-cons_cases first rest (key, other) among') [
            | inl here' ↦ inr (inl (ap (λ entry. entry.0) here', Contains-image (λ entry. entry.0) rest (key, value) later))
            | inr later' ↦
                elim (two_values rest key value other later later') [ inl same ↦ inl same | inr twice ↦ inr (inr twice) ]
          ]
    ]

-- where no key stands twice, the values of a key are the same
pub value_once : {K V : Type 0} (entries : List (K × V)) → ((key : K) → ¬ Twice (map (λ entry. entry.0) entries) key)
    → (key : K) (value other : V) → Contains entries (key, value) → Contains entries (key, other) → value ≡ other
value_once entries once key value other among among' =
    elim (two_values entries key value other among among') [ inl same ↦ same | inr twice ↦ absurd (once key twice) ]

-- an item that a test keeps stands in the list, and passes
pub Contains-filter : {A : Type 0} (p : A → Bool) (xs : List A) (x : A) → Contains (filter p xs) x → Contains xs x × (p x ≡ true)
Contains-filter p xs x among = (
  All-contains (Contains xs) (filter p xs) x (All-filter p (Contains xs) xs (All-contains_itself xs)) among,
  All-contains (λ each. p each ≡ true) (filter p xs) x (filter_passes p xs) among,
)

-- no item stands twice in a sorted list without duplicates
pub Twice-sorted_by_name : {A : Type 0} (R : A → A → Ordering) → IsTotalOrder R → (xs : List A) (x : A) → IsStrictlySortedBy R xs → ¬ Twice xs x
unfolding IsStrictlySortedBy
Twice-sorted_by_name R total [] x sorted_by_name twice = twice
Twice-sorted_by_name R total (first ∷ rest) x sorted_by_name twice =
    elim twice [
      | inl here ↦
          not_itself R total first x here.0 (All-contains (λ each. R first each ≡ Less) rest x
          (All-from_recursion (λ each. R first each ≡ Less) rest sorted_by_name.0) here.1)
      | inr later ↦ Twice-sorted_by_name R total rest x sorted_by_name.1 later
    ]
