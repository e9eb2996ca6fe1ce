-- Lists that rise by what is seen of their items: places in them, walks over two of them, and
-- inclusion by number.
use Rattle.std.proofs.Common.{Bool, true, false, ◌≡◌, ◌≢◌, ◌<◌, ◌≤◌, ◌+◌, ℕ, zero, suc, inl, inr, ⊎_elim, refl, sym, ap, subst, ◌∙◌, List, [], ◌∷◌, length, map, Contains, get_or, take, drop, arith}
use Rattle.std.proofs.lemmas.Bool.{cases_lt, false≢true}
use Rattle.std.proofs.lemmas.List.{get_or_default, get_or-map, length-map}
use Rattle.std.proofs.lemmas.List.Elements.{All-contains, All-from_recursion}
use Rattle.std.specs.Bool.{Decides}
use Rattle.std.specs.Cmp.{IsTotalOrder, tied_itself}
use Rattle.std.specs.List.{AllByRecursion}
use Rattle.std.specs.List.Sorted.{IsStrictlySortedBy}
use Rattle.std.specs.Ordering.{ordering_reverse}
use Rattle.std.specs.declared.cmp.Ordering.{Ordering}
use Rattle.std.specs.declared.cmp.Ordering.TheVariants.{Less, Equal, Greater}
use Rattle.cedar_ast.proofs.Basics.{some_item}
use Rattle.cedar_ast.proofs.Inclusion.{Included-head, Included-in_none, Included-none}
use Rattle.cedar_ast.proofs.Lists.{Contains-cons, Contains-cons_cases, Contains-preimage}
use Rattle.cedar_ast.proofs.Ordered.{not_itself}
use Rattle.cedar_ast.specs.Lists.{Included}

-- what is seen of the item at a place
abbrev pub seen_at : {E K : Type 0} → (E → K) → List E → ℕ → E → K
seen_at see all i d = see (get_or all i d)

-- all that is seen before a place is below
abbrev pub AllBelow : {E K : Type 0} → (E → K) → (K → K → Ordering) → List E → ℕ → K → Type 0
AllBelow {E = E} see R own place k = (i : ℕ) (d : E) → i < place → R (seen_at see own i d) k ≡ Less

-- a walk that has come to a place: what is seen before it is below all that is left of the other
-- list
pub record Ahead {E F K : Type 0} (see : E → K) (other : F → K) (R : K → K → Ordering) (own : List E) (at : ℕ)
    (rest : List F) : Type 0 where
  pub up : IsStrictlySortedBy R (map other rest)
  pub below : (i : ℕ) (d : E) → i < at → AllByRecursion (λ k. R (seen_at see own i d) k ≡ Less) (map other rest)

module _ {K : Type 0} (R : K → K → Ordering) (total : IsTotalOrder R) where
  -- where the one is above, the other is below
  pub turned : (one other : K) → R one other ≡ Greater → R other one ≡ Less
  turned one other above = total.antisymm other one ∙ ap ordering_reverse above

  -- what is below another is below all that the other is below
  pub below_all : (one other : K) → R one other ≡ Less → (ks : List K) → AllByRecursion (λ k. R other k ≡ Less) ks
      → AllByRecursion (λ k. R one k ≡ Less) ks
  below_all one other less [] all = tt
  below_all one other less (k ∷ ks) all = (total.trans one other k less all.0, below_all one other less ks all.1)

  -- a member of the rest is above the first
  first_below : (x : K) (xs : List K) (z : K) → AllByRecursion (λ y. R x y ≡ Less) xs → Contains xs z → R x z ≡ Less
  first_below x xs z below among = All-contains (λ y. R x y ≡ Less) xs z (All-from_recursion (λ y. R x y ≡ Less) xs below) among

  -- what is below each of some isn't among them
  pub below_each-apart : (x : K) (xs : List K) → AllByRecursion (λ y. R x y ≡ Less) xs → ¬ Contains xs x
  below_each-apart x xs below among = not_itself R total x x refl (first_below x xs x below among)

  -- sorted lists without duplicates and begin alike: the rest is included in the rest
  Included-rests : (x : K) (xs : List K) (y : K) (ys : List K) → AllByRecursion (λ z. R x z ≡ Less) xs → y ≡ x
      → Included (x ∷ xs) (y ∷ ys) → Included xs ys
  Included-rests x xs y ys below same all z among =
      elim (Contains-cons_cases y ys z (all z (Contains-cons x xs z (inr among)))) [ inl e ↦ absurd (not_itself R total x z (sym same ∙ e) (first_below x xs z below among)) | inr there ↦ there ]

  -- a sorted list without duplicates and begins above another's first is included in that one's
  -- rest
  Included-past : (x : K) (xs : List K) (y : K) (ys : List K) → AllByRecursion (λ z. R x z ≡ Less) xs
      → AllByRecursion (λ z. R y z ≡ Less) ys → Contains ys x → Included (x ∷ xs) (y ∷ ys) → Included (x ∷ xs) ys
  Included-past x xs y ys first second there all z among =
      let above = first_below y ys x second there in
      let below : R y z ≡ Less =
      elim (Contains-cons_cases x xs z among) [ inl e ↦ subst (λ w. R y w ≡ Less) e above | inr more ↦ total.trans y x z above (first_below x xs z first more) ] in
      elim (Contains-cons_cases y ys z (all z among)) [ inl e ↦ absurd (not_itself R total y z e below) | inr found ↦ found ]

  -- a sorted list without duplicates is no longer than one that includes it
  pub Included-length : (xs ys : List K) → IsStrictlySortedBy R xs → IsStrictlySortedBy R ys → Included xs ys → length xs ≤ length ys
  unfolding IsStrictlySortedBy
  Included-length [] ys first second all = omega arith
  Included-length (x ∷ xs) [] first second all = absurd (Included-in_none x xs all)
  Included-length (x ∷ xs) (y ∷ ys) first second all =
      elim (Contains-cons_cases y ys x (Included-head x xs (y ∷ ys) all)) [
        | inl same ↦ let rest = Included-length xs ys first.1 second.1 (Included-rests x xs y ys first.0 same all) in omega (arith, rest)
        | inr there ↦ let rest = Included-length (x ∷ xs) ys first second.1 (Included-past x xs y ys first.0 second.0 there all) in
            omega (arith, rest)
      ]

  -- where it is as long, it includes that one
  pub Included-back : (xs ys : List K) → IsStrictlySortedBy R xs → IsStrictlySortedBy R ys → Included xs ys
      → length ys ≤ length xs → Included ys xs
  unfolding IsStrictlySortedBy
  Included-back [] [] first second all long = Included-none []
  Included-back [] (y ∷ ys) first second all long = absurd (omega (arith, long))
  Included-back (x ∷ xs) [] first second all long = Included-none (x ∷ xs)
  Included-back (x ∷ xs) (y ∷ ys) first second all long =
      ⊎_elim
      (λ same z among.
      let back = Included-back xs ys first.1 second.1 (Included-rests x xs y ys first.0 same all) (omega (arith, long)) in
      Contains-cons x xs z (elim (Contains-cons_cases y ys z among) [ inl e ↦ inl (sym same ∙ e) | inr there ↦ inr (back z there) ]))
      (λ there. let short = Included-length (x ∷ xs) ys first second.1 (Included-past x xs y ys first.0 second.0 there all) in
      absurd (omega (arith, short, long)))
      (Contains-cons_cases y ys x (Included-head x xs (y ∷ ys) all))

module _ {E K : Type 0} (see : E → K) (R : K → K → Ordering) where
  -- what holds of all that is seen holds of what is seen at a place
  pub of_seen_at : (P : K → Type 0) (all : List E) → AllByRecursion P (map see all) → (i : ℕ) (d : E) → i < length all
      → P (seen_at see all i d)
  of_seen_at P [] holds i d within = absurd (omega arith)
  of_seen_at P (x ∷ xs) holds zero d within = holds.0
  of_seen_at P (x ∷ xs) holds (suc i) d within = of_seen_at P xs holds.1 i d (omega arith)

  -- at an earlier place stands what is below
  pub seen_at-rises : (all : List E) → IsStrictlySortedBy R (map see all) → (i j : ℕ) (d : E) → i < j → j < length all
      → R (seen_at see all i d) (seen_at see all j d) ≡ Less
  unfolding IsStrictlySortedBy
  seen_at-rises (x ∷ xs) up zero (suc j) d low high = of_seen_at (λ k. R (see x) k ≡ Less) xs up.0 j d (omega arith)
  seen_at-rises (x ∷ xs) up (suc i) (suc j) d low high = seen_at-rises xs up.1 i j d (omega arith) (omega arith)
  seen_at-rises _ up i _ d low high = absurd (omega arith)

module _ {E K : Type 0} (see : E → K) (R : K → K → Ordering) (total : IsTotalOrder R) (own : List E)
    (up : IsStrictlySortedBy R (map see own)) (k : K) (place : ℕ) where
  -- what isn't at the place before which all is below, and which isn't itself, is nowhere
  pub missed_at : AllBelow see R own place k → ((d : E) → place < length own → R (seen_at see own place d) k ≢ Less)
      → ¬ ((place < length own) × ((d : E) → seen_at see own place d ≡ k)) → (i : ℕ) (d : E) → i < length own
      → ¬ (seen_at see own i d ≡ k)
  missed_at below stays missed i d within same =
      elim (cases_lt i place) [
        | inl before ↦ let less = below i d before in
            let equal : R (seen_at see own i d) k ≡ Equal = subst (λ z. R (seen_at see own i d) z ≡ Equal) same
            (tied_itself total (seen_at see own i d)) in
            absurd cc
        | inr from ↦ elim (cases_lt place i) [
          | inl before ↦ stays d (omega (arith, before, within))
              (subst (λ z. R (seen_at see own place d) z ≡ Less) same (seen_at-rises see R own up place i d before within))
          | inr to ↦ let is : i ≡ place = omega (arith, from, to) in
              missed (omega (arith, is, within), λ e. at_place i is d e within same)
        ]
      ]
    where
      at_place : (i : ℕ) → i ≡ place → (d e : E) → i < length own → seen_at see own i d ≡ k → seen_at see own place e ≡ k
      at_place i is d e within same = ap (λ n. seen_at see own n e) (sym is) ∙ (ap see (get_or_default own i e d within) ∙ same)

  -- and none of the items shows it
  pub missed : AllBelow see R own place k → ((d : E) → place < length own → R (seen_at see own place d) k ≢ Less)
      → ¬ ((place < length own) × ((d : E) → seen_at see own place d ≡ k)) → ¬ Contains (map see own) k
  missed below stays wrong among =
      let (x, inside, same) = Contains-preimage see own k among in
      missed_at below stays wrong inside.0 x inside.1 (ap see inside.2 ∙ same)

module _ {E F K : Type 0} (see : E → K) (other : F → K) (R : K → K → Ordering) (total : IsTotalOrder R) (own : List E) where
  -- at first nothing is passed
  pub Ahead-first : (rest : List F) → IsStrictlySortedBy R (map other rest) → Ahead see other R own 0 rest
  Ahead-first rest up = record { up = up; below = λ i d low. absurd (omega (arith, low)) }

  -- a walk on to the next passes only what is below it
  pub Ahead-sought : (at place : ℕ) (item : F) (rest : List F) → Ahead see other R own at (item ∷ rest)
      → ((i : ℕ) (d : E) → at ≤ i → i < place → R (seen_at see own i d) (other item) ≡ Less)
      → AllBelow see R own place (other item)
  Ahead-sought at place item rest ahead passed i d low =
      elim (cases_lt i at) [ inl before ↦ (ahead.below i d before).0 | inr from ↦ passed i d from low ]

  -- and then what is before the place is below all that is left
  pub Ahead-next : (at place : ℕ) (item : F) (rest : List F) → Ahead see other R own at (item ∷ rest)
      → AllBelow see R own place (other item) → Ahead see other R own place rest
  unfolding IsStrictlySortedBy
  Ahead-next at place item rest ahead below = record {
    up = ahead.up.1;
    below = λ i d low. below_all R total (seen_at see own i d) (other item) (below i d low) (map other rest) ahead.up.0;
  }

-- what holds of each place from one on, so many on, holds of what is taken there
pub taken-all : {E : Type 0} (P : E → Type 0) (all : List E) (from n : ℕ) → ((i : ℕ) (d : E) → from ≤ i → i < from + n → P (get_or all i d))
    → AllByRecursion P (take n (drop from all))
taken-all P [] zero zero holds = tt
taken-all P [] zero (suc n) holds = tt
taken-all P [] (suc from) zero holds = tt
taken-all P [] (suc from) (suc n) holds = tt
taken-all P (x ∷ xs) zero zero holds = tt
taken-all P (x ∷ xs) zero (suc n) holds =
    (holds 0 x (omega arith) (omega arith), taken-all P xs zero n (λ i d low high. holds (suc i) d (omega arith) (omega (arith, high))))
taken-all P (x ∷ xs) (suc from) n holds =
    taken-all P xs from n (λ i d low high. holds (suc i) d (omega (arith, low)) (omega (arith, high)))

-- a sorted list without duplicates does from each place on
pub rises-from : {E K : Type 0} (see : E → K) (R : K → K → Ordering) (all : List E) (n : ℕ) → IsStrictlySortedBy R (map see all)
    → IsStrictlySortedBy R (map see (drop n all))
unfolding IsStrictlySortedBy
rises-from see R [] zero up = tt
rises-from see R [] (suc n) up = tt
rises-from see R (x ∷ xs) zero up = up
rises-from see R (x ∷ xs) (suc n) up = rises-from see R xs n up.1

-- what is seen from a place on is seen
pub seen-from : {E K : Type 0} (see : E → K) (all : List E) (n : ℕ) (k : K) → Contains (map see (drop n all)) k → Contains (map see all) k
seen-from see [] zero k among = among
seen-from see [] (suc n) k among = among
seen-from see (x ∷ xs) zero k among = among
seen-from see (x ∷ xs) (suc n) k among = Contains-cons (see x) (map see xs) k (inr (seen-from see xs n k among))

module _ {E F K : Type 0} (see : E → K) (other : F → K) (R : K → K → Ordering) (total : IsTotalOrder R) (own : List E) where
  -- a walk past a place where the next is seen too
  pub Ahead-past : (place : ℕ) (item : F) (rest : List F) → IsStrictlySortedBy R (map other (item ∷ rest))
      → Ahead see other R own place rest → ((d : E) → seen_at see own place d ≡ other item) → Ahead see other R own (place + 1) rest
  unfolding IsStrictlySortedBy
  Ahead-past place item rest up ahead here = record {
    up = ahead.up;
    below = λ i d low.
        elim (cases_lt i place) [
          | inl before ↦ ahead.below i d before
          | inr to ↦ let same : i ≡ place = omega (arith, low, to) in
              let P : K → Type 0 = λ seen. AllByRecursion (λ k. R seen k ≡ Less) (map other rest) in
              subst P (sym (here d) ∙ ap (λ n. seen_at see own n d) (sym same)) up.0
        ];
  }

-- from one place to another all that is seen is below
pub record Passed {E K : Type 0} (see : E → K) (R : K → K → Ordering) (all : List E) (k : K) (from at : ℕ) : Type 0 where
  pub on : from ≤ at
  pub below : (i : ℕ) (d : E) → from ≤ i → i < at → R (seen_at see all i d) k ≡ Less

-- where the one at the place is below too, one more is passed
pub Passed-next : {E K : Type 0} (see : E → K) (R : K → K → Ordering) (all : List E) (k : K) (from at : ℕ) (x : E)
    → Passed see R all k from at → at < length all → R (seen_at see all at x) k ≡ Less → Passed see R all k from (at + 1)
Passed-next {E = E} see R all k from at x passed within less = record {
  on = omega (arith, passed.on);
  below = λ i d start end.
      let P : ℕ → E → Type 0 = λ n e. R (seen_at see all n e) k ≡ Less in
      elim (cases_lt i at) [
        | inl before ↦ passed.below i d start before
        | inr to ↦ let same : at ≡ i = omega (arith, end, to) in
            subst (λ n. P n d) same (subst (λ e. R (see e) k ≡ Less) (get_or_default all at x d within) less)
      ];
}

-- what is seen at a place is among all that is seen
pub Contains-seen_at : {E K : Type 0} (see : E → K) (all : List E) (place : ℕ) (d : E) → place < length all
    → Contains (map see all) (seen_at see all place d)
Contains-seen_at see all place d within =
    (place, rw length-map within, get_or-map see all place d (see (get_or all place d)) within)

module _ {E F K : Type 0} (see : E → K) (other : F → K) (R : K → K → Ordering) (total : IsTotalOrder R) (own : List E)
    (up : IsStrictlySortedBy R (map see own)) (at place : ℕ) (item : F) (rest : List F)
    (ahead : Ahead see other R own at (item ∷ rest))
    (passed : (i : ℕ) (d : E) → at ≤ i → i < place → R (seen_at see own i d) (other item) ≡ Less)
    (stays : (d : E) → place < length own → R (seen_at see own place d) (other item) ≢ Less) where
  -- whether it is at the place that a walk came to decides whether it is among all that is seen
  pub sought-Decides : (b : Bool) → Decides b ((place < length own) × ((d : E) → seen_at see own place d ≡ other item))
      → Decides b (Contains (map see own) (other item))
  sought-Decides true decides =
      let here = decides.0 refl in
      let d = some_item own place here.0 in
      (λ _. subst (Contains (map see own)) (here.1 d) (Contains-seen_at see own place d here.0), λ _. refl)
  sought-Decides false decides = (
    λ e. absurd (false≢true e),
    λ among. absurd (missed see R total own up (other item) place
        (Ahead-sought see other R total own at place item rest ahead passed) stays (λ here. false≢true (decides.1 here)) among),
  )

  -- the walk goes on from the place
  pub sought-next : Ahead see other R own place rest
  sought-next =
      Ahead-next see other R total own at place item rest ahead (Ahead-sought see other R total own at place item rest ahead passed)
