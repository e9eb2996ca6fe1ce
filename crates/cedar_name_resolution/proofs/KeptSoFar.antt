-- Items that are gone through, of which a test keeps some.
use Rattle.std.proofs.Common.{◌≡◌, Bool, true, false, List, [], ◌∷◌, ◌++◌, map, ap, sym, ◌∙◌, refl, append_assoc, cond}
use Rattle.std.proofs.lemmas.List.{map-append, append-nil}
use Rattle.std.specs.List.{filter}

-- some items have given those others that a test keeps, which show the same, and others are left
pub record KeptSoFar {A B C : Type 0} (p : C → Bool) (f : A → C) (g : C → B) (all : List A) (made : List B) (left : List A) : Type 0 where
  pub done : List A
  pub split : all ≡ done ++ left
  pub same : made ≡ map g (filter p (map f done))

-- what a test keeps of appended lists
filter-append : {C : Type 0} (p : C → Bool) (xs ys : List C) → filter p (xs ++ ys) ≡ filter p xs ++ filter p ys
filter-append p [] ys = refl
filter-append {C = C} p (x ∷ xs) ys = by (filter-append p xs ys) (p x) where
  by : filter p (xs ++ ys) ≡ filter p xs ++ filter p ys → (answer : Bool) → cond answer (x ∷ filter p (xs ++ ys)) (filter p (xs ++ ys))
      ≡ cond answer (x ∷ filter p xs) (filter p xs) ++ filter p ys
  by onwards true = ap (λ zs. x ∷ zs) onwards
  by onwards false = onwards

module _ {A B C : Type 0} (p : C → Bool) (f : A → C) (g : C → B) where
  -- what a test keeps of one item
  kept_one : (x : C) (answer : Bool) → p x ≡ answer → filter p (x ∷ []) ≡ cond answer (x ∷ []) []
  kept_one x answer is = ap (λ each. cond each (x ∷ []) []) is

  -- with one more item, what is kept gains what is kept of it
  kept_more : (done : List A) (x : A) → map g (filter p (map f (done ++ x ∷ [])))
      ≡ map g (filter p (map f done)) ++ map g (filter p (f x ∷ []))
  kept_more done x =
      cc (map-append f done (x ∷ []), filter-append p (map f done) (f x ∷ []), map-append g (filter p (map f done)) (filter p (f x ∷ [])))

  -- at first none is done
  pub KeptSoFar-none : (all left : List A) (made : List B) → all ≡ left → made ≡ [] → KeptSoFar p f g all made left
  KeptSoFar-none all left made same nothing = record { done = []; split = same; same = nothing }

  -- one more is done, and kept where it passes
  pub KeptSoFar-next : (all left rest : List A) (made after : List B) (x : A) (answer : Bool) → left ≡ x ∷ rest → p (f x) ≡ answer
      → after ≡ cond answer (made ++ g (f x) ∷ []) made → KeptSoFar p f g all made left → KeptSoFar p f g all after rest
  KeptSoFar-next all left rest made after x answer is answers is_after so_far =
      record {
        done = so_far.done ++ x ∷ [];
        split = so_far.split ∙ (ap (λ others. so_far.done ++ others) is ∙ sym (append_assoc so_far.done (x ∷ []) rest));
        same = is_after ∙ (ap (λ others. cond answer (others ++ g (f x) ∷ []) others) so_far.same
            ∙ (by answer ∙ ((λ i. map g (filter p (map f so_far.done)) ++ map g (sym (kept_one (f x) answer answers) i))
            ∙ sym (kept_more so_far.done x))));
      }
    where
      by : (each : Bool) → cond each (map g (filter p (map f so_far.done)) ++ g (f x) ∷ []) (map g (filter p (map f so_far.done)))
          ≡ map g (filter p (map f so_far.done)) ++ map g (cond each (f x ∷ []) [])
      by true = refl
      by false = sym (append-nil (map g (filter p (map f so_far.done))))

  -- where none is left, all are done
  pub KeptSoFar-all : (all left : List A) (made : List B) → left ≡ [] → KeptSoFar p f g all made left
      → made ≡ map g (filter p (map f all))
  KeptSoFar-all all left made nothing so_far =
      so_far.same ∙ ap (λ items. map g (filter p (map f items)))
      (sym (so_far.split ∙ (ap (λ others. so_far.done ++ others) nothing ∙ append-nil so_far.done)))
