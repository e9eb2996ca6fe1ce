-- Tests over a list, against what its elements give.
use Rattle.std.proofs.Common.{◌≡◌, ◌≢◌, ◌<◌, ℕ, suc, zero, ◌+◌, Bool, List, [], ◌∷◌, ◌++◌, ◌⊎◌, inl, inr, map, length, take, get_or, All, AllPairs, Contains, arith, sym, ◌∙◌, ap}
use Rattle.std.proofs.Math.ListN.{length-map, length-take}
use Rattle.std.proofs.lemmas.Bool.Decides.{Decides-like, Decides-or}
use Rattle.std.proofs.lemmas.List.{get_or-map, get_or_default, get_or-take, map_more, take-map}
use Rattle.std.proofs.lemmas.List.Elements.{Contains-get_or}
use Rattle.std.proofs.lemmas.List.Quantifiers.{all_pairs_push}
use Rattle.std.specs.Bool.{Decides}
use Rattle.std.specs.List.{list_any}
use Rattle.cedar_ast.specs.Lists.{Twice}

-- what is first or is among the rest is an element
pub Contains-cons : {B : Type 0} (b : B) (bs : List B) (x : B) → (b ≡ x) ⊎ Contains bs x → Contains (b ∷ bs) x
Contains-cons b bs x (inl e) = (0, omega arith, e)
Contains-cons b bs x (inr there) = (suc there.0, omega (arith, there.1), there.2)

-- an element is first or is among the rest
pub Contains-cons_cases : {B : Type 0} (b : B) (bs : List B) (x : B) → Contains (b ∷ bs) x → (b ≡ x) ⊎ Contains bs x
Contains-cons_cases b bs x (zero, lt, e) = inl e
Contains-cons_cases b bs x (suc k, lt, e) = inr (k, omega (arith, lt), e)

-- where a test decides whether an element gives x, its search decides whether x is given
pub list_any-Contains : {X B : Type 0} (f : X → B) (x : B) (test : X → Bool) → ((y : X) → Decides (test y) (f y ≡ x))
    → (ys : List X) → Decides (list_any test ys) (Contains (map f ys) x)
list_any-Contains f x test same [] = (λ e. absurd cc, λ there. absurd (omega (arith, there.1)))
list_any-Contains f x test same (y ∷ ys) =
    Decides-like
    _ (Contains-cons (f y) (map f ys) x) (Contains-cons_cases (f y) (map f ys) x)
    (Decides-or _ _ (same y) (list_any-Contains f x test same ys))

-- what holds of all that the elements give holds of each of those
pub All-from_map : {X B : Type 0} (P : B → Type 0) (f : X → B) (ys : List X) → All P (map f ys) → All (λ y. P (f y)) ys
All-from_map P f ys all k d lt = rw (get_or-map f ys k d (f d) lt) at (all k (f d) (rw length-map lt))

-- what an element gives repeats what one before it gives
pub repeated : {X B : Type 0} (f : X → B) (ys : List X) (i : ℕ) (y : X) → i < length ys → y ≡ get_or ys i y
    → Contains (map f (take i ys)) (f y) → ¬ AllPairs (λ a b. a ≢ b) (map f ys)
repeated f ys i y lt is (k, below, same) distinct =
    let within : k < i = omega (arith, simp (length-map, length-take) at below) in
    let inside : i < length (map f ys) = rw length-map lt in
    let first : get_or (map f ys) k (f y) ≡ f y = sym (get_or-take i (map f ys) k (f y) within)
    ∙ ap (λ zs. get_or zs k (f y)) (take-map f i ys) ∙ same in
    let second : get_or (map f ys) i (f y) ≡ f y = get_or-map f ys i y (f y) lt ∙ ap f (sym is) in
    distinct k i (f y) within inside (first ∙ sym second)

-- what stands at a place is the same, whatever stands for what isn't there
pub same_at : {X : Type 0} (ys : List X) (i : ℕ) (y z : X) → i < length ys → y ≡ get_or ys i y → z ≡ get_or ys i z → y ≡ z
same_at ys i y z lt first second = first ∙ get_or_default ys i y z lt ∙ sym second

-- what an element gives is among what all give
pub Contains-at : {X B : Type 0} (f : X → B) (ys : List X) (i : ℕ) (y : X) → i < length ys → y ≡ get_or ys i y → Contains (map f ys) (f y)
Contains-at f ys i y lt is = (i, rw length-map lt, get_or-map f ys i y (f y) lt ∙ ap f (sym is))

-- an element that gives what one before it gives stands twice among what is given
pub Twice-at : {X B : Type 0} (f : X → B) (ys : List X) (i : ℕ) (y : X) → i < length ys → y ≡ get_or ys i y
    → Contains (map f (take i ys)) (f y) → Twice (map f ys) (f y)
Twice-at f [] i y lt is there = absurd (omega (arith, lt))
Twice-at f (first ∷ ys) zero y lt is there = absurd (omega (arith, there.1))
Twice-at f (first ∷ ys) (suc i) y lt is there =
    let below : i < length ys = omega (arith, lt) in
    elim (Contains-cons_cases (f first) (map f (take i ys)) (f y) there) [
      | inl here ↦ inl (here, Contains-at f ys i y below is)
      | inr rest ↦ inr (Twice-at f ys i y below is rest)
    ]

-- a list stays without repeats as an element is added that isn't in it
distinct_push : {B : Type 0} (xs : List B) (x : B) → AllPairs (λ a b. a ≢ b) xs → ¬ Contains xs x → AllPairs (λ a b. a ≢ b) (xs ++ x ∷ [])
distinct_push xs x distinct new = all_pairs_push (λ a b. a ≢ b) xs x distinct (λ k d lt e. new (k, lt, get_or_default xs k x d lt ∙ e))

-- one element more that gives nothing that was given before leaves no repeats
pub distinct_more : {X B : Type 0} (f : X → B) (ys : List X) (i : ℕ) (y : X) → i < length ys → y ≡ get_or ys i y
    → ¬ Contains (map f (take i ys)) (f y) → AllPairs (λ a b. a ≢ b) (map f (take i ys))
    → AllPairs (λ a b. a ≢ b) (map f (take (i + 1) ys))
distinct_more f ys i y lt is new distinct =
    let more : map f (take (i + 1) ys) ≡ map f (take i ys) ++ f y ∷ [] = map_more f ys i y lt
    ∙ ap (λ z. map f (take i ys) ++ f z ∷ []) (sym is) in
    rw more (distinct_push (map f (take i ys)) (f y) distinct new)

-- what stands in a mapped list is the image of what stands in the list
pub Contains-preimage : {X Y : Type 0} (f : X → Y) (xs : List X) (y : Y) → Contains (map f xs) y → (x : X) × Contains xs x × (f x ≡ y)
Contains-preimage f [] y among = absurd (omega (arith, among.1))
Contains-preimage {X} f (first ∷ rest) y among =
    let all : List X = first ∷ rest in
    let below : among.0 < length all = rw (sym (length-map all f)) among.1 in
    let found : X = get_or all among.0 first in
    (found, Contains-get_or all among.0 first below, sym (get_or-map f all among.0 first y below) ∙ among.2)
