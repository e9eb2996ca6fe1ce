-- Declarations that are put into a bag one after another.
use Rattle.std.proofs.Common.{◌≡◌, ◌++◌, List, [], ◌∷◌, map, ap, sym, ◌∙◌, refl, inl, append_assoc, arith, Contains, inr}
use Rattle.std.proofs.lemmas.List.{append-nil, map-append}
use Rattle.std.proofs.lemmas.List.Elements.{Contains-append_cases, Contains-append_right}
use Rattle.std.proofs.lemmas.List.Sorted.{Contains-permutation, IsPermutation-append_left, IsPermutation-refl, IsPermutation-sym, IsPermutation-trans}
use Rattle.std.specs.List.Sorted.{IsPermutation}
use Rattle.cedar_ast.proofs.Basics.{Contains-image, Contains-single}
use Rattle.cedar_ast.proofs.Lists.{Contains-cons}
use Rattle.cedar_schema_semantics.proofs.OccurrenceLemmas.{Twice-both}
use Rattle.cedar_schema_semantics.proofs.TurnLemmas.{turn_back, turn_forth}
use Rattle.cedar_schema_writer.specs.Words.{ArePut, Bag, Declaration, HoldsPairwise, Twice}

-- two lists in turn after two others
pairwise_append : {A B : Type 0} (R : A → B → Type 0) (xs xs' : List A) (ys ys' : List B) → HoldsPairwise R xs ys → HoldsPairwise R xs' ys'
    → HoldsPairwise R (xs ++ xs') (ys ++ ys')
pairwise_append R [] xs' [] ys' front back = back
pairwise_append R (x ∷ xs) xs' (y ∷ ys) ys' front back = (front.0, pairwise_append R xs xs' ys ys' front.1 back)
pairwise_append R _ xs' _ ys' front back = absurd front

-- of some items, none of one key, a declaration of each is put in; others are left
pub record PutSoFar {A K : Type 0} (key : A → K) (R : A → Declaration → Type 0) (P : A → Type 0) (before : Bag) (all left : List A)
    (current : Bag) : Type 0 where
  pub done : List A
  pub split : all ≡ done ++ left
  pub once : (k : K) → ¬ Twice (map key all) k
  pub put : List Declaration
  pub turn : HoldsPairwise R done put
  pub in_some_order : IsPermutation (before ++ put) current
  pub sound : (x : A) → Contains done x → P x

module _ {A K : Type 0} (key : A → K) (R : A → Declaration → Type 0) (P : A → Type 0) (before : Bag) (all : List A) where
  -- at first none is
  pub put_none : (left : List A) → left ≡ all → ((k : K) → ¬ Twice (map key all) k) → PutSoFar key R P before all left before
  put_none left same once = record {
    done = [];
    split = sym same;
    once = once;
    put = [];
    turn = tt;
    in_some_order = rw (append-nil before) (IsPermutation-refl before);
    sound = λ x none. absurd (omega (arith, none.1));
  }

module _ {A K : Type 0} {key : A → K} {R : A → Declaration → Type 0} {P : A → Type 0} {before : Bag} {all left rest : List A} {x : A}
    {current : Bag} (is : left ≡ x ∷ rest) (so_far : PutSoFar key R P before all left current) where
  whole : all ≡ so_far.done ++ x ∷ rest
  whole = so_far.split ∙ ap (λ others. so_far.done ++ others) is

  -- the next is one of all
  pub put_here : Contains all x
  put_here =
      rw whole (Contains-append_right so_far.done (x ∷ rest) x (Contains-cons x rest x (inl refl)))

  -- what was put in is a declaration of another item, with another key
  pub put_other : (it : Declaration) → Contains current it → ¬ Contains before it → (y : A) × R y it × ¬ (key y ≡ key x)
  put_other it among not_before =
      let back = Contains-permutation current (before ++ so_far.put) it (IsPermutation-sym _ _ so_far.in_some_order) among in
      let put : Contains so_far.put it =
      elim (Contains-append_cases before so_far.put it back) [ inl there ↦ absurd (not_before there) | inr there ↦ there ] in
      let found = turn_forth (λ (d : Declaration) (y : A). R y d) so_far.put so_far.done
      (turn_back R (λ (d : Declaration) (y : A). R y d) (λ y d holds. holds) so_far.done so_far.put so_far.turn) it put in (
        found.0,
        found.2,
        λ same.
            so_far.once (key x) (rw (ap (map key) whole, map-append key so_far.done (x ∷ rest))
            (Twice-both (map key so_far.done) (key x ∷ map key rest) (key x)
            (rw same at (Contains-image key so_far.done found.0 found.1))
            (Contains-cons (key x) (map key rest) (key x) (inl refl)))),
      )

  -- one more is put in
  pub put_more : (it : Declaration) (after : Bag) → R x it → P x → IsPermutation (current ++ it ∷ []) after
      → PutSoFar key R P before all rest after
  put_more it after holds sound grown = record {
    done = so_far.done ++ x ∷ [];
    split = whole ∙ sym (append_assoc so_far.done (x ∷ []) rest);
    once = so_far.once;
    put = so_far.put ++ it ∷ [];
    turn = pairwise_append R so_far.done (x ∷ []) so_far.put (it ∷ []) so_far.turn (holds, tt);
    in_some_order =
        rw (append_assoc before so_far.put (it ∷ [])) at
        (IsPermutation-trans _ _ _ (IsPermutation-append_left (it ∷ []) (before ++ so_far.put) current so_far.in_some_order) grown);
    sound = λ y among. elim (Contains-append_cases so_far.done (x ∷ []) y among) [
      | inl there ↦ so_far.sound y there
      | inr last ↦ rw (Contains-single x y last) at sound
    ];
  }

module _ {A K : Type 0} {key : A → K} {R : A → Declaration → Type 0} {P : A → Type 0} {before : Bag} {all left : List A} {current : Bag}
    (nothing : left ≡ []) (so_far : PutSoFar key R P before all left current) where
  same_items : so_far.done ≡ all
  same_items = sym (so_far.split ∙ (ap (λ others. so_far.done ++ others) nothing ∙ append-nil so_far.done))

  -- where none is left, a declaration of each is put in
  pub put_all : ArePut R all before current
  put_all = record {
    put = so_far.put;
    turn = rw same_items at so_far.turn;
    in_some_order = so_far.in_some_order;
  }

  -- and the fact holds of each
  pub put_sound : (x : A) → Contains all x → P x
  put_sound x among =
      so_far.sound x (rw same_items among)
