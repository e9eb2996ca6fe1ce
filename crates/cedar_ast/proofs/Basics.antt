-- Facts of lists, options, orders and answers.
use Rattle.std.proofs.Common.{◌≡◌, true, false, List, [], ◌∷◌, Option, None, Some, Result, Ok, Err, OnOk, inl, inr, map, length, ◌<◌, ℕ, Contains, ap, arith, refl}
use Rattle.std.proofs.lemmas.Bool.{true≢false}
use Rattle.std.specs.List.{AllByRecursion}
use Rattle.std.specs.Option.{is_some}
use Rattle.std.specs.Ordering.{is_eq}
use Rattle.std.specs.declared.cmp.Ordering.{Ordering}
use Rattle.std.specs.declared.cmp.Ordering.TheVariants.{Equal}
use Rattle.cedar_ast.proofs.Lists.{Contains-cons, Contains-cons_cases}

-- nothing is among no members
pub Contains-none : {A : Type 0} (x : A) → ¬ Contains [] x
Contains-none x among = omega (arith, among.1)

-- the one member of a list is that one
pub Contains-single : {A : Type 0} (x y : A) → Contains (x ∷ []) y → x ≡ y
Contains-single x y among = elim (Contains-cons_cases x [] y among) [ inl same ↦ same | inr none ↦ absurd (omega (arith, none.1)) ]

-- the image of a member is a member of the mapped list
pub Contains-image : {X Y : Type 0} (f : X → Y) (xs : List X) (x : X) → Contains xs x → Contains (map f xs) (f x)
Contains-image f [] x among = absurd (omega (arith, among.1))
Contains-image f (first ∷ rest) x among =
    Contains-cons (f first) (map f rest) (f x)
    (elim (Contains-cons_cases first rest x among) [ inl here ↦ inl (ap f here) | inr later ↦ inr (Contains-image f rest x later) ])

-- a list without members is empty
pub no_members : {A : Type 0} (xs : List A) → ((x : A) → ¬ Contains xs x) → xs ≡ []
no_members [] none = refl
no_members (x ∷ xs) none = absurd (none x (Contains-cons x xs x (inl refl)))

-- what holds of each item holds of one
pub AllByRecursion-at : {A : Type 0} (P : A → Type 0) (xs : List A) (x : A) → AllByRecursion P xs → Contains xs x → P x
AllByRecursion-at P [] x all among = absurd (omega (arith, among.1))
AllByRecursion-at P (first ∷ rest) x all among = elim (Contains-cons_cases first rest x among) [
  | inl same ↦ rw same at all.0
  | inr later ↦ AllByRecursion-at P rest x all.1 later
]

-- an order that is answered as equal is equal
pub is_eq-Equal : (o : Ordering) → is_eq o ≡ true → o ≡ Equal
is_eq-Equal Equal e = refl
is_eq-Equal _ e = absurd cc

-- what isn't there is none
pub is_some-none : {A : Type 0} (o : Option A) → is_some o ≡ false → o ≡ None
is_some-none None there = refl
is_some-none (Some it) there = absurd (cc)

-- what holds on success, so does what follows from it
pub OnOk-map : {A E P Q : Type 0} (r : Result A E) → OnOk r P → (P → Q) → OnOk r Q
OnOk-map (Ok x) holds to = to holds
OnOk-map (Err e) holds to = tt

-- a list with a place in it has an item
pub some_item : {E : Type 0} (all : List E) (place : ℕ) → place < length all → E
some_item [] place within = absurd (omega (arith, within))
some_item (x ∷ xs) place within = x
