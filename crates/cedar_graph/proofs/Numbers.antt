-- Keys and their numbers: how one more name changes them, and chains of keys against chains of
-- numbers.
use Rattle.std.proofs.Common.{◌≡◌, ◌⊎◌, ℕ, zero, suc, ◌<◌, Bool, true, false, cond, IsTrue, List, [], ◌∷◌, ◌++◌, length, Option, Some, None, IsSomeAnd, IfSome, slice_get, get_or, HashMap, refl, sym, ◌∙◌, ap, subst, inl, inr, arith}
use Rattle.std.proofs.lemmas.Bool.{both_ways, cases_Bool, cond-true, cond-false}
use Rattle.std.proofs.lemmas.Map.Keys.{apart_from_distinct}
use Rattle.std.proofs.lemmas.Option.{MatchOption-at_some, slice_get-get_or, get_or_from_slice_get, none-some, same_Some, slice_get_within}
use Rattle.std.specs.Cmp.{IsEquivalence}
use Rattle.std.specs.HashMap.{get}
use Rattle.std.specs.List.{IsDistinct}
use Rattle.std.specs.Map.{lookup}
use Rattle.cedar_graph.specs.Words.{AreNumbers, AreNumbersOf, Chain, IsNumbered, KeepsNumbers, more, one}

-- what is never some value is none
none_from_no_some : {X : Type 0} (o : Option X) → ((x : X) → o ≡ Some x → ⊥) → o ≡ None
none_from_no_some None never = refl
none_from_no_some (Some x) never = absurd (never x refl)

module _ {K : Type 0} (eq : K → K → Bool) where
  -- a number is a place among the names
  pub number_below : (names : List K) (key : K) (n : ℕ) → IsNumbered eq names key n → n < length names
  number_below [] key n stands = elim stands [ ]
  number_below (x ∷ xs) key zero stands = omega arith
  number_below (x ∷ xs) key (suc n) stands = let below = number_below xs key n stands in omega (arith, below)

  -- with one more name, each number stays
  pub number_kept : (names : List K) (name key : K) (n : ℕ) → IsNumbered eq names key n
      → IsNumbered eq (names ++ name ∷ []) key n
  number_kept [] name key n stands = elim stands [ ]
  number_kept (x ∷ xs) name key zero stands = stands
  number_kept (x ∷ xs) name key (suc n) stands = number_kept xs name key n stands

  -- and the new name has the next
  pub number_added : (names : List K) (name key : K) → eq key name ≡ true
      → IsNumbered eq (names ++ name ∷ []) key (length names)
  number_added [] name key same = same
  number_added (x ∷ xs) name key same = number_added xs name key same

  -- and there are no others
  pub number_cases : (names : List K) (name key : K) (n : ℕ) → IsNumbered eq (names ++ name ∷ []) key n
      → IsNumbered eq names key n ⊎ ((n ≡ length names) × (eq key name ≡ true))
  number_cases [] name key zero stands = inr (refl, stands)
  number_cases [] name key (suc n) stands = elim stands [ ]
  number_cases (x ∷ xs) name key zero stands = inl stands
  number_cases (x ∷ xs) name key (suc n) stands =
      elim (number_cases xs name key n stands) [ inl before ↦ inl before | inr last ↦ inr (ap suc last.0, last.1) ]

  -- a key that is equal to the name at a number has it
  pub numbered_from_name : (names : List K) (name key : K) (n : ℕ) → slice_get names n ≡ Some name → eq key name
      ≡ true → IsNumbered eq names key n
  numbered_from_name names name key n found same = subst (λ o. IsSomeAnd o (λ x. IsTrue (eq key x))) (sym found) same

  -- and the other way
  pub name_from_numbered : (names : List K) (name key : K) (n : ℕ) → slice_get names n ≡ Some name
      → IsNumbered eq names key n → eq key name ≡ true
  name_from_numbered names name key n found stands = subst (λ o. IsSomeAnd o (λ x. IsTrue (eq key x))) found stands

-- tests that agree find the same
pub lookup_agree : {K X : Type 0} (test other : K → Bool) → ((k : K) → test k ≡ other k) → (es : List (K × X))
    → lookup test es ≡ lookup other es
lookup_agree test other agree [] = refl
lookup_agree test other agree (e ∷ es) =
    ap (λ b. cond b (Some e.1) (lookup test es)) (agree e.0)
    ∙ ap (λ o. cond (other e.0) (Some e.1) o) (lookup_agree test other agree es)

module _ {K : Type 0} {eq : K → K → Bool} (laws : IsEquivalence eq) where
  -- equal keys find the same
  pub get_alike : {X S : Type 0} (m : HashMap K X S) (a b : K) → eq a b ≡ true → get eq m a ≡ get eq m b
  get_alike m a b same = lookup_agree (eq a) (eq b) (λ k. laws.congr a b k same) m.entries

  -- equality is transitive
  pub eq_trans : (a b c : K) → eq a b ≡ true → eq b c ≡ true → eq a c ≡ true
  eq_trans a b c first second = laws.congr a b c first ∙ second

  -- and goes both ways
  pub eq_back : (a b : K) → eq a b ≡ true → eq b a ≡ true
  eq_back a b same = laws.symm b a ∙ same

  -- equal keys have the same number
  pub number_alike : (names : List K) (a b : K) (n : ℕ) → eq a b ≡ true → IsNumbered eq names b n
      → IsNumbered eq names a n
  number_alike [] a b n same stands = elim stands [ ]
  number_alike (x ∷ xs) a b zero same stands = eq_trans a b x same stands
  number_alike (x ∷ xs) a b (suc n) same stands = number_alike xs a b n same stands

  -- keys with the same number are equal
  pub number_same : (names : List K) (a b : K) (n : ℕ) → IsNumbered eq names a n → IsNumbered eq names b n → eq a b ≡ true
  number_same [] a b n first second = elim first [ ]
  number_same (x ∷ xs) a b zero first second = eq_trans a x b first (eq_back b x second)
  number_same (x ∷ xs) a b (suc n) first second = number_same xs a b n first second

  -- where the map finds the numbers, each key has one
  pub one_number : {S : Type 0} (names : List K) (numbers : HashMap K ℕ S) → AreNumbers eq names numbers
      → (key : K) (i j : ℕ) → IsNumbered eq names key i → IsNumbered eq names key j → i ≡ j
  one_number names numbers agree key i j first second =
      same_Some i j (sym ((agree key i).1 first) ∙ (agree key j).1 second)

  -- the map and the names after a new key has the next number
  pub numbers_added : {S : Type 0} (names : List K) (old new : HashMap K ℕ S) (key copy name : K)
      → AreNumbers eq names old → get eq old key ≡ None → eq key copy ≡ true → eq key name ≡ true
      → ((q : K) → get eq new q ≡ cond (eq copy q) (Some (length names)) (get eq old q))
      → AreNumbers eq (names ++ name ∷ []) new
  numbers_added names old new key copy name agree absent copied named updated q m = (
    λ found. elim (cases_Bool (eq copy q)) [
      | inl same ↦ let last : length names ≡ m = same_Some (length names) m
          (sym (cond-true (eq copy q) (Some (length names)) (get eq old q) same) ∙ sym (updated q) ∙ found) in
          let alike : eq q name ≡ true = eq_trans q key name (eq_back key q (eq_trans key copy q copied same)) named in
          subst (IsNumbered eq (names ++ name ∷ []) q) last (number_added eq names name q alike)
      | inr apart ↦ let before : get eq old q ≡ Some m = sym (cond-false (eq copy q) (Some (length names)) (get eq old q) apart)
          ∙ sym (updated q) ∙ found in
          number_kept eq names name q m ((agree q m).0 before)
    ],
    λ stands. elim (number_cases eq names name q m stands) [
      | inl before ↦ elim (cases_Bool (eq copy q)) [
        | inl same ↦ let here = (agree key m).1 (number_alike names key q m (eq_trans key copy q copied same) before) in
            absurd (none-some m (sym absent ∙ here))
        | inr apart ↦ updated q ∙ cond-false (eq copy q) (Some (length names)) (get eq old q) apart ∙ (agree q m).1 before
      ]
      | inr last ↦ let same : eq copy q ≡ true = eq_trans copy key q (eq_back key copy copied)
          (eq_trans key name q named (eq_back q name last.1)) in
          updated q ∙ cond-true (eq copy q) (Some (length names)) (get eq old q) same ∙ ap Some (sym last.0)
    ],
  )

-- numbers of keys stay so while keys keep their numbers
pub numbers_of_kept : {K : Type 0} (eq : K → K → Bool) (old new : List K) (test : K → Bool) (numbers : List ℕ)
    → KeepsNumbers eq old new → AreNumbersOf eq old test numbers → AreNumbersOf eq new test numbers
numbers_of_kept eq old new test numbers kept are = record {
  sound = λ number inside. let it = are.sound number inside in (it.0, kept it.0 number it.1, it.2);
  complete = λ key passes. let it = are.complete key passes in (it.0, kept key it.0 it.1, it.2);
}

-- a key that stands further on among distinct keys than all that have names has no number
module _ {K : Type 0} {eq : K → K → Bool} (laws : IsEquivalence eq) where
  pub no_number_yet : {S : Type 0} (keys names : List K) (numbers : HashMap K ℕ S) (key : K)
      → AreNumbers eq names numbers → IsDistinct eq keys
      → slice_get keys (length names) ≡ Some key
      → ((i : ℕ) → i < length names → IfSome (slice_get keys i) (λ k. IsNumbered eq names k i))
      → get eq numbers key ≡ None
  no_number_yet keys names numbers key agree distinct here before =
      none_from_no_some (get eq numbers key) (λ m found.
      let stands = (agree key m).0 found in
      let below = number_below eq names key m stands in
      let within : length names < length keys = slice_get_within keys (length names) key here in
      let place : m < length keys = omega (arith, below, within) in
      let other = get_or keys m key in
      let named : IsNumbered eq names other m = MatchOption-at_some _ _ other (slice_get-get_or keys m key place)
      (before m below) in
      let alike : eq other key ≡ true = number_same laws names other key m named stands in
      let apart : eq other (get_or keys (length names) key)
      ≡ false = apart_from_distinct eq keys m (length names) key distinct below within in
      both_ways _ (ap (eq other) (sym (get_or_from_slice_get keys (length names) key key here)) ∙ apart) alike)

-- A relation N of keys and numbers, steps E of keys and steps S of numbers
module _ {K : Type 0} (N : K → ℕ → Type 0) (E : K → K → Type 0) (S : ℕ → ℕ → Type 0) where
  -- where each step of keys is one of numbers, a chain of keys is one of numbers
  pub numbers_from_keys : ((key : K) (i j : ℕ) → N key i → N key j → i ≡ j)
      → ((a b : K) → E a b → (i : ℕ) × (j : ℕ) × N a i × N b j × S i j)
      → {a b : K} → Chain E a b → (i : ℕ) × (j : ℕ) × N a i × N b j × Chain S i j
  numbers_from_keys single step {a = a} {b = b} (one s) =
      let here = step a b s in (here.0, here.1, here.2, here.3, one here.4)
  numbers_from_keys single step {a = a} (more s rest) =
      let here = step a _ s in
      let there = numbers_from_keys single step rest in
      (here.0, there.1, here.2, there.3, more (subst (S here.0) (single _ here.1 there.0 here.3 there.2) here.4) there.4)

  -- where each step of numbers is one of keys, a chain of numbers is one of keys
  pub keys_from_numbers : ((i j : ℕ) → S i j → (b : K) × N b j)
      → ((i j : ℕ) (a b : K) → S i j → N a i → N b j → E a b)
      → {i j : ℕ} → Chain S i j → (a b : K) → N a i → N b j → Chain E a b
  keys_from_numbers named step {i = i} {j = j} (one s) a b first last = one (step i j a b s first last)
  keys_from_numbers named step {i = i} (more s rest) a b first last =
      let next = named i _ s in
      more (step i _ a next.0 s first next.1) (keys_from_numbers named step rest next.0 b next.1 last)
