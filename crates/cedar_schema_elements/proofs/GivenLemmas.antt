-- What items give, one after another, put behind what was there, where no two items give the same.
use Rattle.std.proofs.Common.{◌≡◌, ◌≢◌, ◌<◌, ◌≤◌, ◌+◌, ℕ, length, get_or, take, List, [], ◌∷◌, ◌++◌, map, ap, sym, subst, ◌∙◌, refl, inl, inr, arith, append_assoc, Contains, AllPairs}
use Rattle.std.proofs.lemmas.Grind.{flat_map-append}
use Rattle.std.proofs.lemmas.List.{append-nil, get_or_default, map-append, take_all, take_more}
use Rattle.std.proofs.lemmas.List.Kept.{AllPairs-cons}
use Rattle.std.specs.List.{flat_map}
use Rattle.cedar_ast.proofs.Basics.{Contains-image}
use Rattle.cedar_ast.proofs.Lists.{Contains-cons}
use Rattle.cedar_ast.specs.Lists.{Twice}
use Rattle.cedar_schema_semantics.proofs.OccurrenceLemmas.{Contains-flat_map, Twice-append, Twice-both}

-- the items of a list in which none stands twice differ
pub all_differ : {A : Type 0} (xs : List A) → ((x : A) → ¬ Twice xs x) → AllPairs (λ a b. a ≢ b) xs
all_differ {A = A} [] once = λ i j d below within. absurd (omega (arith, within))
all_differ {A = A} (first ∷ rest) once =
    AllPairs-cons (λ a b. a ≢ b) first rest
    (λ i d below same. once first (inl (refl, (i, below, get_or_default rest i first d below ∙ sym same))))
    (all_differ rest (λ x in_rest. once x (inr in_rest)))

-- of some items, what they give was put behind what was there before, each once; others are left
pub record GivenSoFar {A B K : Type 0} (f : A → List B) (key : A → K) (before : List B) (all : List A) (after : List B)
    (left : List A) : Type 0 where
  pub done : List A
  pub split : all ≡ done ++ left
  pub distinct : (k : K) → ¬ Twice (map key all) k
  pub added : after ≡ before ++ flat_map f done
  pub once : (it : B) → ¬ Twice (flat_map f done) it

module _ {A B K : Type 0} (f : A → List B) (key : A → K) (before : List B) (all : List A) where
  -- at first nothing was
  pub given_none : (left : List A) (after : List B) → left ≡ all → after ≡ before → ((k : K) → ¬ Twice (map key all) k)
      → GivenSoFar f key before all after left
  given_none left after same is distinct = record {
    done = [];
    split = sym same;
    distinct = distinct;
    added = is ∙ sym (append-nil before);
    once = λ it twice. twice;
  }

  module _ (key_of : B → K) (keyed : (x : A) (it : B) → Contains (f x) it → key_of it ≡ key x) where
    -- what one more item gives is none of what others gave
    apart : (done rest : List A) (x : A) → all ≡ done ++ x ∷ rest → ((k : K) → ¬ Twice (map key all) k) → (it : B)
        → Contains (flat_map f done) it → ¬ Contains (f x) it
    apart done rest x split distinct it before_it now =
        let found = Contains-flat_map f done it before_it in
        distinct (key x)
        (rw (ap (map key) split ∙ map-append key done (x ∷ rest)) (Twice-both (map key done) (key x ∷ map key rest) (key x)
        (subst (Contains (map key done)) (sym (keyed found.0 it found.2) ∙ keyed x it now) (Contains-image key done found.0 found.1))
        (Contains-cons (key x) (map key rest) (key x) (inl refl))))

    -- what one more gives was put behind
    pub given_more : (left rest : List A) (middle after : List B) (x : A) → left ≡ x ∷ rest → after ≡ middle ++ f x
        → ((it : B) → ¬ Twice (f x) it) → GivenSoFar f key before all middle left → GivenSoFar f key before all after rest
    given_more left rest middle after x is is_after once so_far = record {
      done = so_far.done ++ x ∷ [];
      split = whole ∙ sym (append_assoc so_far.done (x ∷ []) rest);
      distinct = so_far.distinct;
      added = is_after ∙ (ap (λ items. items ++ f x) so_far.added
          ∙ (append_assoc before (flat_map f so_far.done) (f x) ∙ ap (λ items. before ++ items) (sym more)));
      once = λ it twice. elim (Twice-append (flat_map f so_far.done) (f x) it (subst (Q it) more twice)) [
        | inl left ↦ so_far.once it left
        | inr others ↦
            elim others [
              | inl left ↦ once it left
              | inr both ↦ apart so_far.done rest x whole so_far.distinct it both.0 both.1
            ]
      ];
    }
      where
        whole : all ≡ so_far.done ++ x ∷ rest
        whole = so_far.split ∙ ap (λ others. so_far.done ++ others) is

        more : flat_map f (so_far.done ++ x ∷ []) ≡ flat_map f so_far.done ++ f x
        more = flat_map-append f so_far.done (x ∷ []) ∙ ap (λ items. flat_map f so_far.done ++ items) (append-nil (f x))

        Q : B → List B → Type 0
        Q it items = Twice items it

    -- one more gives nothing
    pub given_nothing : (left rest : List A) (after : List B) (x : A) → left ≡ x ∷ rest → f x ≡ []
        → GivenSoFar f key before all after left → GivenSoFar f key before all after rest
    given_nothing left rest after x is nothing so_far =
        given_more left rest after after x is (sym (append-nil after) ∙ ap (λ items. after ++ items) (sym nothing))
        (rw nothing (λ it twice. twice)) so_far

    -- what all that are left give was put behind
    given_each : (left : List A) (after : List B) → ((x : A) (it : B) → ¬ Twice (f x) it) → GivenSoFar f key before all after left
        → GivenSoFar f key before all (after ++ flat_map f left) []
    given_each [] after once so_far = rw (append-nil after) so_far
    given_each (x ∷ left) after once so_far =
        rw (append_assoc after (f x) (flat_map f left)) at (given_each left (after ++ f x) once (given_more (x ∷ left) left after (after ++ f x) x refl refl (once x) so_far))

  -- where none is left, all that the items give was put behind, each once
  module _ (left : List A) (after : List B) (nothing : left ≡ []) (so_far : GivenSoFar f key before all after left) where
    whole : so_far.done ≡ all
    whole = sym (so_far.split ∙ (ap (λ others. so_far.done ++ others) nothing ∙ append-nil so_far.done))

    pub given_all : after ≡ before ++ flat_map f all
    given_all = so_far.added ∙ ap (λ items. before ++ flat_map f items) whole

    pub given_once : (it : B) → ¬ Twice (flat_map f all) it
    given_once = rw whole at so_far.once

-- what one more gives was put behind, and the others are left
pub rest_more : {A B : Type 0} (f : A → List B) (all middle after : List B) (left rest : List A) (x : A) → left ≡ x ∷ rest
    → after ≡ middle ++ f x → middle ++ flat_map f left ≡ all → after ++ flat_map f rest ≡ all
rest_more f all middle after left rest x is is_after so_far =
    ap (λ items. items ++ flat_map f rest) is_after ∙ (append_assoc middle (f x) (flat_map f rest)
    ∙ (ap (λ others. middle ++ flat_map f others) (sym is) ∙ so_far))

-- where none is left, all was put behind
pub rest_none : {A B : Type 0} (f : A → List B) (all after : List B) (left : List A) → left ≡ [] → after ++ flat_map f left ≡ all → after ≡ all
rest_none f all after left nothing so_far = sym (append-nil after) ∙ (ap (λ others. after ++ flat_map f others) (sym nothing) ∙ so_far)

-- where each item gives nothing twice, and no two give the same, all of them give nothing twice
pub all_once : {A B K : Type 0} (f : A → List B) (key : A → K) (key_of : B → K)
    → ((x : A) (it : B) → Contains (f x) it → key_of it ≡ key x) → ((x : A) (it : B) → ¬ Twice (f x) it) → (all : List A)
    → ((k : K) → ¬ Twice (map key all) k) → (it : B) → ¬ Twice (flat_map f all) it
all_once f key key_of keyed once all distinct =
    given_once f key [] all [] (flat_map f all) refl
    (given_each f key [] all key_of keyed all [] once (given_none f key [] all all [] refl refl distinct))

-- what one more of some items gives was put behind what those before it give
pub taken_more : {A B : Type 0} (f : A → List B) (before middle after : List B) (all : List A) (k : ℕ) (d : A) → k < length all
    → after ≡ middle ++ f (get_or all k d) → middle ≡ before ++ flat_map f (take k all) → after ≡ before ++ flat_map f (take (k + 1) all)
taken_more f before middle after all k d lt is_after so_far =
    let one = get_or all k d in
    let more : flat_map f (take (k + 1) all) ≡ flat_map f (take k all) ++ f one =
    ap (flat_map f) (take_more all k d lt) ∙ (flat_map-append f (take k all) (one ∷ [])
    ∙ ap (λ items. flat_map f (take k all) ++ items) (append-nil (f one))) in
    is_after ∙ (ap (λ items. items ++ f one) so_far
    ∙ (append_assoc before (flat_map f (take k all)) (f one) ∙ ap (λ items. before ++ items) (sym more)))

-- where no more are left, what all of them give was put behind
pub taken_all : {A B : Type 0} (f : A → List B) (before after : List B) (all : List A) (k : ℕ) → length all ≤ k
    → after ≡ before ++ flat_map f (take k all) → after ≡ before ++ flat_map f all
taken_all f before after all k le so_far = so_far ∙ ap (λ taken. before ++ flat_map f taken) (take_all k all le)
