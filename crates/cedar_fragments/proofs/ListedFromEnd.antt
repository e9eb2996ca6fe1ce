-- Items that are taken from the end of a list, one after another, each giving one of another list.
use Rattle.std.proofs.Common.{◌≡◌, ◌<◌, false, true, List, [], ◌∷◌, ◌++◌, map, reverse, ap, sym, ◌∙◌, refl, append_assoc, length, Contains, arith}
use Rattle.std.proofs.lemmas.Bool.{false≢true}
use Rattle.std.proofs.lemmas.List.{append-nil, reverse-append}
use Rattle.std.proofs.lemmas.List.Elements.{Contains-append_right}
use Rattle.std.specs.List.{AllByRecursion}

-- the last items have given others, which show the same in turn from the last made to the first,
-- and of which a fact holds; others are left
pub record ListedFromEnd {A B C : Type 0} (P : C → Type 0) (f : A → C) (g : B → C) (all : List A) (made : List B) (left : List A) : Type 0 where
  pub done : List A
  pub split : all ≡ left ++ done
  pub same : map g (reverse made) ≡ map f done
  pub each : AllByRecursion P (map f done)

-- items of which there isn't one are none
pub none_left : {A : Type 0} (items : List A) → (0 < length items → false ≡ true) → items ≡ []
none_left [] some = refl
none_left (item ∷ items) some = absurd (false≢true (some (omega arith)))

module _ {A B C : Type 0} (P : C → Type 0) (f : A → C) (g : B → C) where
  -- at first none has
  pub ListedFromEnd-none : (all : List A) (made : List B) → made ≡ [] → ListedFromEnd P f g all made all
  ListedFromEnd-none all made nothing =
      record { done = []; split = sym (append-nil all); same = ap (λ items. map g (reverse items)) nothing; each = tt }

  -- all are those that are left but the next one, then that one, then those that have
  pub around_next : (all left rest : List A) (made : List B) (x : A) → left ≡ rest ++ x ∷ []
      → (so_far : ListedFromEnd P f g all made left) → all ≡ rest ++ x ∷ so_far.done
  around_next all left rest made x is so_far =
      so_far.split ∙ (ap (λ others. others ++ so_far.done) is ∙ append_assoc rest (x ∷ []) so_far.done)

  -- one more has
  pub ListedFromEnd-more : (all left rest : List A) (made pushed : List B) (x : A) (y : B) → left ≡ rest ++ x ∷ []
      → pushed ≡ made ++ y ∷ [] → g y ≡ f x → P (f x) → ListedFromEnd P f g all made left → ListedFromEnd P f g all pushed rest
  ListedFromEnd-more all left rest made pushed x y is is_pushed one holds so_far =
      record {
        done = x ∷ so_far.done;
        split = around_next all left rest made x is so_far;
        same = ap (λ items. map g (reverse items)) is_pushed
            ∙ (ap (map g) (reverse-append made (y ∷ [])) ∙ λ i. one i ∷ so_far.same i);
        each = (holds, so_far.each);
      }

  -- the next one is among all
  pub next_from_end : (all left rest : List A) (made : List B) (x : A) → left ≡ rest ++ x ∷ [] → ListedFromEnd P f g all made left
      → Contains all x
  next_from_end all left rest made x is so_far =
      rw (around_next all left rest made x is so_far)
      (Contains-append_right rest (x ∷ so_far.done) x (0, omega arith, refl))

  -- where none is left, all items are done
  all_done : (all left : List A) (made : List B) → left ≡ [] → (so_far : ListedFromEnd P f g all made left) → so_far.done ≡ all
  all_done all left made nothing so_far = sym (so_far.split ∙ ap (λ others. others ++ so_far.done) nothing)

  -- where none is left, all show the same once they are turned round
  pub same_from_end : (all left : List A) (made turned : List B) → left ≡ [] → turned ≡ reverse made
      → ListedFromEnd P f g all made left → map g turned ≡ map f all
  same_from_end all left made turned nothing is so_far =
      ap (map g) is ∙ (so_far.same ∙ ap (map f) (all_done all left made nothing so_far))

  -- where none is left, the fact holds of all
  pub each_from_end : (all left : List A) (made : List B) → left ≡ [] → ListedFromEnd P f g all made left → AllByRecursion P (map f all)
  each_from_end all left made nothing so_far = rw (all_done all left made nothing so_far) at so_far.each
