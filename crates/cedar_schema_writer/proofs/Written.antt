-- Items that are written one after another.
use Rattle.std.proofs.Common.{◌≡◌, ◌++◌, List, [], ◌∷◌, ap, sym, ◌∙◌, refl, inl, append_assoc, arith, Contains, inr}
use Rattle.std.proofs.lemmas.List.{append-nil}
use Rattle.std.proofs.lemmas.List.Elements.{Contains-append_cases, Contains-append_right}
use Rattle.cedar_ast.proofs.Basics.{Contains-single}
use Rattle.cedar_ast.proofs.Lists.{Contains-cons}

-- some items are written, of each of which a fact holds, and others are left
pub record WrittenSoFar {A : Type 0} (P : A → Type 0) (all written left : List A) : Type 0 where
  pub split : all ≡ written ++ left
  pub sound : (x : A) → Contains written x → P x

-- nothing stands in an empty list
pub none_there : {A : Type 0} (items : List A) (x : A) → items ≡ [] → ¬ Contains items x
none_there {A} items x nothing among =
    let none : Contains [] x = rw nothing at among in omega (arith, none.1)

module _ {A : Type 0} (P : A → Type 0) (all : List A) where
  -- at first none is
  pub written_none : (written left : List A) → written ≡ [] → left ≡ all → WrittenSoFar P all written left
  written_none written left nothing same = record {
    split = sym same ∙ ap (λ items. items ++ left) (sym nothing);
    sound = λ x among. absurd (none_there written x nothing among);
  }

  module _ (written left rest : List A) (x : A) (is : left ≡ x ∷ rest) (so_far : WrittenSoFar P all written left) where
    -- the next is one of all
    pub written_here : Contains all x
    written_here =
        rw (so_far.split, ap (λ others. written ++ others) is)
        (Contains-append_right written (x ∷ rest) x (Contains-cons x rest x (inl refl)))

    -- one more is written
    pub written_more : (pushed : List A) → pushed ≡ written ++ x ∷ [] → P x → WrittenSoFar P all pushed rest
    written_more pushed grown here = record {
      split = cc (so_far.split, is, append_assoc written (x ∷ []) rest, grown);
      sound = λ y among.
          elim (Contains-append_cases written (x ∷ []) y (rw grown at among)) [
            | inl before ↦ so_far.sound y before
            | inr last ↦ rw (Contains-single x y last) at here
          ];
    }

  -- where none is left, all are written
  pub written_all : (written left : List A) → left ≡ [] → WrittenSoFar P all written left → written ≡ all
  written_all written left nothing so_far = sym (so_far.split ∙ (ap (λ others. written ++ others) nothing ∙ append-nil written))

  -- and the fact holds of each
  pub each_sound : (written left : List A) → left ≡ [] → WrittenSoFar P all written left → (x : A) → Contains all x → P x
  each_sound written left nothing so_far x among =
      so_far.sound x (rw (written_all written left nothing so_far) among)
