-- How often an item stands in a list.
use Rattle.std.proofs.Common.{◌≡◌, ◌⊎◌, ◌+◌, ◌≤◌, ℕ, Bool, true, false, List, [], ◌∷◌, ◌++◌, map, ap, sym, ◌∙◌, refl, inl, inr, arith, Contains}
use Rattle.std.proofs.lemmas.Bool.{false≢true}
use Rattle.std.proofs.lemmas.List.{map-append}
use Rattle.std.proofs.lemmas.List.Sums.{sum_by-cons}
use Rattle.std.specs.Bool.{Decides}
use Rattle.std.specs.List.{flat_map, sum_by}
use Rattle.cedar_ast.proofs.Lists.{Contains-cons, Contains-cons_cases}
use Rattle.cedar_ast.specs.Lists.{Twice}

-- a truth value as a number
abbrev pub bit : Bool → ℕ
bit true = 1
bit false = 0

module _ {A : Type 0} (test : A → A → Bool) (decides : (y x : A) → Decides (test y x) (y ≡ x)) where
  -- how often the item stands in a list
  abbrev pub hits : A → List A → ℕ
  hits x [] = 0
  hits x (y ∷ ys) = bit (test y x) + hits x ys

  -- an item is the one that is counted, or it isn't
  hit_cases : (y x : A) → ((y ≡ x) × (bit (test y x) ≡ 1)) ⊎ ((¬ (y ≡ x)) × (bit (test y x) ≡ 0))
  hit_cases y x = by (test y x) (decides y x) where
    by : (answer : Bool) → Decides answer (y ≡ x) → ((y ≡ x) × (bit answer ≡ 1)) ⊎ ((¬ (y ≡ x)) × (bit answer ≡ 0))
    by true found = inl (found.0 refl, refl)
    by false found = inr (λ same. false≢true (found.1 same), refl)

  -- what stands in a list is counted
  hits_of : (xs : List A) (x : A) → Contains xs x → 1 ≤ hits x xs
  hits_of [] x among = absurd (omega (arith, among.1))
  hits_of (y ∷ ys) x among =
      elim (hit_cases y x) [
        | inl hit ↦ omega (arith, hit.1)
        | inr miss ↦
            elim (Contains-cons_cases y ys x among) [
              | inl same ↦ absurd (miss.0 same)
              | inr there ↦ omega (arith, miss.1, hits_of ys x there)
            ]
      ]

  -- what is counted stands in the list
  of_hits : (xs : List A) (x : A) → 1 ≤ hits x xs → Contains xs x
  of_hits [] x count = absurd (omega (arith, count))
  of_hits (y ∷ ys) x count =
      elim (hit_cases y x) [
        | inl hit ↦ Contains-cons y ys x (inl hit.0)
        | inr miss ↦ Contains-cons y ys x (inr (of_hits ys x (omega (arith, miss.1, count))))
      ]

  -- what stands twice is counted twice
  pub hits_of_twice : (xs : List A) (x : A) → Twice xs x → 2 ≤ hits x xs
  hits_of_twice [] x twice = absurd twice
  hits_of_twice (y ∷ ys) x twice =
      elim (hit_cases y x) [
        | inl hit ↦
            elim twice [
              | inl here ↦ omega (arith, hit.1, hits_of ys x here.1)
              | inr later ↦ omega (arith, hit.1, hits_of_twice ys x later)
            ]
        | inr miss ↦
            elim twice [ inl here ↦ absurd (miss.0 here.0) | inr later ↦ omega (arith, miss.1, hits_of_twice ys x later) ]
      ]

  -- what is counted twice stands twice
  pub twice_of_hits : (xs : List A) (x : A) → 2 ≤ hits x xs → Twice xs x
  twice_of_hits [] x count = absurd (omega (arith, count))
  twice_of_hits (y ∷ ys) x count =
      elim (hit_cases y x) [
        | inl hit ↦ inl (hit.0, of_hits ys x (omega (arith, hit.1, count)))
        | inr miss ↦ inr (twice_of_hits ys x (omega (arith, miss.1, count)))
      ]

  -- lists one after the other count together
  pub hits-append : (xs ys : List A) (x : A) → hits x (xs ++ ys) ≡ hits x xs + hits x ys
  hits-append [] ys x = omega arith
  hits-append (y ∷ rest) ys x = omega (arith, hits-append rest ys x)

  -- the lists that some items give count together
  pub hits-flat_map : {X Y : Type 0} (f : X → List Y) (key : Y → A) (xs : List X) (x : A)
      → hits x (map key (flat_map f xs)) ≡ sum_by (λ item. hits x (map key (f item))) xs
  hits-flat_map f key [] x = refl
  hits-flat_map f key (first ∷ rest) x =
      ap (hits x) (map-append key (f first) (flat_map f rest))
      ∙ (hits-append (map key (f first)) (map key (flat_map f rest)) x
      ∙ (ap (λ count. hits x (map key (f first)) + count) (hits-flat_map f key rest x)
      ∙ sym (sum_by-cons (λ item. hits x (map key (f item))) first rest)))
