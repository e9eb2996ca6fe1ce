-- Lists that are made of what some items give, one after another.
use Rattle.std.proofs.Common.{◌≡◌, ◌<◌, ◌+◌, ℕ, List, [], ◌∷◌, ◌++◌, map, ap, sym, ◌∙◌, refl, append_assoc, length, take, get_or}
use Rattle.std.proofs.lemmas.Grind.{flat_map-append}
use Rattle.std.proofs.lemmas.List.{append-nil, map_more, take_more}
use Rattle.std.specs.List.{flat_map}

-- what each gives alone, all give together
pub flat_map-single : {E D : Type 0} (g : E → D) (xs : List E) → flat_map (λ x. g x ∷ []) xs ≡ map g xs
flat_map-single g [] = refl
flat_map-single g (x ∷ xs) = ap (λ others. g x ∷ others) (flat_map-single g xs)

-- where each gives itself, they give what they are
pub flat_map-itself : {E : Type 0} (xs : List E) → flat_map (λ x. x ∷ []) xs ≡ xs
flat_map-itself [] = refl
flat_map-itself (x ∷ xs) = ap (λ others. x ∷ others) (flat_map-itself xs)

module _ {E D : Type 0} (f : E → List D) where
  -- what one more gives stands after what those before it give
  pub given_more : (xs : List E) (x : E) → flat_map f (xs ++ x ∷ []) ≡ flat_map f xs ++ f x
  given_more xs x = flat_map-append f xs (x ∷ []) ∙ ap (λ last. flat_map f xs ++ last) (append-nil (f x))

  module _ (before : List D) where
    -- what some of the items give was listed, and others are left
    pub record ListedSoFar (all : List E) (after : List D) (left : List E) : Type 0 where
      pub done : List E
      pub split : all ≡ done ++ left
      pub added : after ≡ before ++ flat_map f done

    -- at first none was
    pub listed_none : (all left : List E) → all ≡ left → ListedSoFar all before left
    listed_none all left same = record { done = []; split = same; added = sym (append-nil before) }

    -- one more was
    pub listed_more : (all left rest : List E) (middle after : List D) (item : E) → left ≡ item ∷ rest → after ≡ middle ++ f item
        → ListedSoFar all middle left → ListedSoFar all after rest
    listed_more all left rest middle after item is more so_far = record {
      done = so_far.done ++ item ∷ [];
      split = so_far.split ∙ (ap (λ others. so_far.done ++ others) is ∙ sym (append_assoc so_far.done (item ∷ []) rest));
      added = more ∙ (ap (λ front. front ++ f item) so_far.added
          ∙ (append_assoc before (flat_map f so_far.done) (f item)
          ∙ ap (λ others. before ++ others) (sym (given_more so_far.done item))));
    }

    -- where none is left, all were
    pub listed_all : (all left : List E) (after : List D) → left ≡ [] → ListedSoFar all after left → after ≡ before ++ flat_map f all
    listed_all all left after nothing so_far =
        so_far.added ∙ ap (λ each. before ++ flat_map f each)
        (sym (so_far.split ∙ (ap (λ others. so_far.done ++ others) nothing ∙ append-nil so_far.done)))

    -- the next item of a list
    pub listed_next : (items : List E) (i : ℕ) (item : E) (middle after : List D) → i < length items → item ≡ get_or items i item
        → middle ≡ before ++ flat_map f (take i items) → after ≡ middle ++ f item → after ≡ before ++ flat_map f (take (i + 1) items)
    listed_next items i item middle after lt is so_far more =
        more ∙ (ap (λ front. front ++ f item) so_far
        ∙ (append_assoc before (flat_map f (take i items)) (f item)
        ∙ ap (λ others. before ++ others) (sym (given_more (take i items) item)
        ∙ ap (flat_map f) (ap (λ one. take i items ++ one ∷ []) is ∙ sym (take_more items i item lt)))))

-- the next item of a list that is seen in some way
pub mapped_next : {E D : Type 0} (g : E → D) (before : List D) (items : List E) (i : ℕ) (item : E) (middle after : List D) → i < length items
    → item ≡ get_or items i item → middle ≡ before ++ map g (take i items) → after ≡ middle ++ g item ∷ []
    → after ≡ before ++ map g (take (i + 1) items)
mapped_next g before items i item middle after lt is so_far more =
    more ∙ (ap (λ front. front ++ g item ∷ []) so_far
    ∙ (append_assoc before (map g (take i items)) (g item ∷ [])
    ∙ ap (λ others. before ++ others) (ap (λ each. map g (take i items) ++ g each ∷ []) is ∙ sym (map_more g items i item lt))))
