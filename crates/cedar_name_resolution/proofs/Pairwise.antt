-- Lists whose items are related pairwise.
use Rattle.std.proofs.Common.{◌≡◌, List, [], ◌∷◌, ◌++◌, map, ap, sym, ◌∙◌, refl, inl, append_assoc, Contains}
use Rattle.std.proofs.lemmas.List.{map-append, append-nil}
use Rattle.std.proofs.lemmas.List.Elements.{Contains-append_right}
use Rattle.std.specs.BTreeMap.{insert_entry}
use Rattle.std.specs.Cmp.{IsTotalOrder}
use Rattle.std.specs.List.{AllByRecursion}
use Rattle.std.specs.List.Sorted.{IsStrictlySortedBy}
use Rattle.std.specs.Map.{keys_of}
use Rattle.std.specs.declared.cmp.Ordering.{Ordering}
use Rattle.std.specs.declared.cmp.Ordering.TheVariants.{Greater}
use Rattle.cedar_ast.proofs.Basics.{Contains-image}
use Rattle.cedar_ast.proofs.Lists.{Contains-cons}
use Rattle.cedar_ast.proofs.Ordered.{above_front, insert_entry-end}
use Rattle.cedar_ast.specs.Lists.{HoldsPairwise}

module _ {A B : Type 0} (R : A → B → Type 0) where
  -- two lists after two others
  pub pairwise_append : (xs xs' : List A) (ys ys' : List B) → HoldsPairwise R xs ys → HoldsPairwise R xs' ys' → HoldsPairwise R (xs ++ xs') (ys ++ ys')
  pairwise_append [] xs' [] ys' front back = back
  pairwise_append (x ∷ xs) xs' (y ∷ ys) ys' front back = (front.0, pairwise_append xs xs' ys ys' front.1 back)
  pairwise_append _ xs' _ ys' front back = absurd front

-- some items have given others, which are related to them through two functions, and others are
-- left
pub record TurnSoFar {X Y A B : Type 0} (R : A → B → Type 0) (f : X → A) (g : Y → B) (all : List X) (made : List Y) (left : List X) : Type 0 where
  pub done : List X
  pub split : all ≡ done ++ left
  pub turn : HoldsPairwise R (map f done) (map g made)

module _ {X Y A B : Type 0} (R : A → B → Type 0) (f : X → A) (g : Y → B) where
  -- at first none has
  pub turn_none : (all left : List X) (made : List Y) → left ≡ all → made ≡ [] → TurnSoFar R f g all made left
  turn_none all left made same nothing =
      record { done = []; split = sym same; turn = rw nothing tt }

  -- one more has
  pub turn_more : (all left rest : List X) (made pushed : List Y) (x : X) (y : Y) → left ≡ x ∷ rest → pushed ≡ made ++ y ∷ [] → R (f x) (g y)
      → TurnSoFar R f g all made left → TurnSoFar R f g all pushed rest
  turn_more all left rest made pushed x y is grown one so_far =
      record {
        done = so_far.done ++ x ∷ [];
        split = so_far.split ∙ (ap (λ others. so_far.done ++ others) is ∙ sym (append_assoc so_far.done (x ∷ []) rest));
        turn = rw (map-append f so_far.done (x ∷ []), ap (map g) grown, map-append g made (y ∷ []))
            (pairwise_append R (map f so_far.done) (f x ∷ []) (map g made) (g y ∷ []) so_far.turn (one, tt));
      }

  -- where none is left, all have
  pub turn_all : (all left : List X) (made : List Y) → left ≡ [] → TurnSoFar R f g all made left → HoldsPairwise R (map f all) (map g made)
  turn_all all left made nothing so_far =
      rw (so_far.split, ap (λ others. so_far.done ++ others) nothing, append-nil so_far.done) so_far.turn

  -- the next one is among all
  pub turn_next : (all left rest : List X) (made : List Y) (x : X) → left ≡ x ∷ rest → TurnSoFar R f g all made left → Contains all x
  turn_next all left rest made x is so_far =
      rw (so_far.split, ap (λ others. so_far.done ++ others) is)
      (Contains-append_right so_far.done (x ∷ rest) x (Contains-cons x rest x (inl refl)))

  -- and what it gives is among what all give
  pub turn_among : (all left rest : List X) (made : List Y) (x : X) → left ≡ x ∷ rest → TurnSoFar R f g all made left → Contains (map f all) (f x)
  turn_among all left rest made x is so_far = Contains-image f all x (turn_next all left rest made x is so_far)

-- entries of one key whose values are related
abbrev pub SameKey : {K V W : Type 0} → (V → W → Type 0) → K × V → K × W → Type 0
SameKey R entry other = (entry.0 ≡ other.0) × R entry.1 other.1

-- some entries have given others, which are related under the same keys, and others are left
pub record RelatedSoFar {K V W : Type 0} (R : V → W → Type 0) (all : List (K × V)) (made : List (K × W)) (left : List (K × V)) : Type 0 where
  pub done : List (K × V)
  pub split : all ≡ done ++ left
  pub turn : HoldsPairwise (SameKey R) done made

module _ {K V W : Type 0} (R : V → W → Type 0) where
  -- entries that are related pairwise have the same keys
  same_keys : (done : List (K × V)) (made : List (K × W)) → HoldsPairwise (SameKey R) done made → keys_of done ≡ keys_of made
  same_keys [] [] turn = refl
  same_keys (entry ∷ done) (other ∷ made) turn = (λ i. turn.0.0 i ∷ same_keys done made turn.1 i)
  same_keys _ _ turn = absurd turn

  -- at first none has
  pub related_none : (all left : List (K × V)) (made : List (K × W)) → all ≡ left → made ≡ [] → RelatedSoFar R all made left
  related_none all left made same nothing =
      record { done = []; split = same; turn = rw nothing tt }

  -- one more has, which goes to the end of the map
  pub related_more : {O : K → K → Ordering} → IsTotalOrder O → (all left rest : List (K × V)) (made : List (K × W)) (key : K) (value : V)
      (other : W) → IsStrictlySortedBy O (keys_of all) → left ≡ (key, value) ∷ rest → R value other → RelatedSoFar R all made left
      → RelatedSoFar R all (insert_entry O made key other) rest
  related_more {O = O} total all left rest made key value other ordered is one so_far =
      let keys : keys_of all ≡ keys_of so_far.done ++ key ∷ keys_of rest =
      ap keys_of (so_far.split ∙ ap (λ others. so_far.done ++ others) is) ∙ map-append (λ entry. entry.0) so_far.done ((key, value) ∷ rest) in
      let above : AllByRecursion (λ other. O key other ≡ Greater) (keys_of made) =
      rw (same_keys so_far.done made so_far.turn) at (above_front total (keys_of so_far.done) key (keys_of rest) (rw keys at ordered)) in
      rw (insert_entry-end O made key other above) (record {
        done = so_far.done ++ (key, value) ∷ [];
        split = so_far.split ∙ (ap (λ others. so_far.done ++ others) is ∙ sym (append_assoc so_far.done ((key, value) ∷ []) rest));
        turn = pairwise_append (SameKey R) so_far.done ((key, value) ∷ []) made ((key, other) ∷ []) so_far.turn ((refl, one), tt);
      })

  -- where none is left, all have
  pub related_all : (all left : List (K × V)) (made : List (K × W)) → left ≡ [] → RelatedSoFar R all made left → HoldsPairwise (SameKey R) all made
  related_all all left made nothing so_far =
      rw (so_far.split, ap (λ others. so_far.done ++ others) nothing, append-nil so_far.done) so_far.turn
