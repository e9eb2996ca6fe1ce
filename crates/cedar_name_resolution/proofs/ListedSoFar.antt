-- Items that are gone through one after another, each giving one of another list.
use Rattle.std.proofs.Common.{◌≡◌, List, [], ◌∷◌, ◌++◌, map, ap, sym, ◌∙◌, refl, append_assoc, Contains, arith}
use Rattle.std.proofs.lemmas.List.{map-append, append-nil}
use Rattle.std.proofs.lemmas.List.Elements.{Contains-append_right}
use Rattle.std.specs.List.{AllByRecursion}
use Rattle.cedar_name_resolution.proofs.OneMore.{one_more}

-- some items have given others, which show the same, and of which a fact holds; others are left
pub record ListedSoFar {A B C : Type 0} (P : C → Type 0) (f : A → C) (g : B → C) (all : List A) (made : List B) (left : List A) : Type 0 where
  pub done : List A
  pub split : all ≡ done ++ left
  pub same : map g made ≡ map f done
  pub each : AllByRecursion P (map f done)

-- what holds of each item, and of one more
pub AllByRecursion-push : {C : Type 0} (P : C → Type 0) (xs : List C) (x : C) → AllByRecursion P xs → P x → AllByRecursion P (xs ++ x ∷ [])
AllByRecursion-push P [] x all one = (one, tt)
AllByRecursion-push P (first ∷ rest) x all one = (all.0, AllByRecursion-push P rest x all.1 one)

module _ {A B C : Type 0} (P : C → Type 0) (f : A → C) (g : B → C) where
  -- at first none has
  pub ListedSoFar-none : (all left : List A) (made : List B) → all ≡ left → made ≡ [] → ListedSoFar P f g all made left
  ListedSoFar-none all left made same nothing = record { done = []; split = same; same = ap (map g) nothing; each = tt }

  -- one more has
  pub ListedSoFar-more : (all left rest : List A) (made pushed : List B) (x : A) (y : B) → left ≡ x ∷ rest
      → pushed ≡ made ++ y ∷ [] → g y ≡ f x → P (f x) → ListedSoFar P f g all made left → ListedSoFar P f g all pushed rest
  ListedSoFar-more all left rest made pushed x y is is_pushed one holds so_far =
      record {
        done = so_far.done ++ x ∷ [];
        split = so_far.split ∙ (ap (λ others. so_far.done ++ others) is ∙ sym (append_assoc so_far.done (x ∷ []) rest));
        same = one_more g f made pushed so_far.done y x is_pushed so_far.same one;
        each = rw (map-append f so_far.done (x ∷ [])) (AllByRecursion-push P (map f so_far.done) (f x) so_far.each holds);
      }

  -- the next one is among all
  pub listed_next : (all left rest : List A) (made : List B) (x : A) → left ≡ x ∷ rest → ListedSoFar P f g all made left
      → Contains (map f all) (f x)
  listed_next all left rest made x is so_far =
      rw (ap (map f) (so_far.split ∙ ap (λ others. so_far.done ++ others) is), map-append f so_far.done (x ∷ rest))
      (Contains-append_right (map f so_far.done) (f x ∷ map f rest) (f x) (0, omega arith, refl))

  -- where none is left, all items are done
  done_all : (all left : List A) (made : List B) → left ≡ [] → (so_far : ListedSoFar P f g all made left) → so_far.done ≡ all
  done_all all left made nothing so_far =
      sym (so_far.split ∙ (ap (λ others. so_far.done ++ others) nothing ∙ append-nil so_far.done))

  -- where none is left, all show the same
  pub listed_same : (all left : List A) (made : List B) → left ≡ [] → ListedSoFar P f g all made left → map g made ≡ map f all
  listed_same all left made nothing so_far = so_far.same ∙ ap (map f) (done_all all left made nothing so_far)

  -- where none is left, the fact holds of all
  pub listed_each : (all left : List A) (made : List B) → left ≡ [] → ListedSoFar P f g all made left → AllByRecursion P (map f all)
  listed_each all left made nothing so_far =
      rw (done_all all left made nothing so_far) at so_far.each
