-- What is made sure of the items of a list, one after another.
use Rattle.std.proofs.Common.{◌≡◌, ◌⊎◌, List, [], ◌∷◌, refl, inl, inr, subst, sym, arith, Contains}
use Rattle.cedar_ast.proofs.Lists.{Contains-cons, Contains-cons_cases}

-- of each item it is made sure, but of those that are left, which are items too
pub record Checking {A : Type 0} (P : A → Type 0) (all left : List A) : Type 0 where
  pub checked : (x : A) → Contains all x → P x ⊎ Contains left x
  pub among : (x : A) → Contains left x → Contains all x

module _ {A : Type 0} (P : A → Type 0) (all : List A) where
  -- at first all are left
  pub checking_none : (left : List A) → left ≡ all → Checking P all left
  checking_none left same =
      let Q : List A → Type 0 = Checking P all in
      subst Q (sym same) (record { checked = λ x here. inr here; among = λ x here. here })

  module _ (left rest : List A) (x : A) (is : left ≡ x ∷ rest) (so_far : Checking P all left) where
    -- the next one is an item
    pub checking_here : Contains all x
    checking_here =
        let Q : List A → Type 0 = λ items. Contains items x in
        so_far.among x (subst Q (sym is) (Contains-cons x rest x (inl refl)))

    -- it is made sure of one more
    pub checking_more : P x → Checking P all rest
    checking_more here = record {
      checked = λ y there.
          let Q : List A → Type 0 = λ items. Contains items y in
          elim (so_far.checked y there) [ inl sound ↦ inl sound | inr still ↦ elim (Contains-cons_cases x rest y (subst Q is still)) [ inl same ↦ inl (subst P same here) | inr later ↦ inr later ] ];
      among = λ y there.
          let Q : List A → Type 0 = λ items. Contains items y in
          so_far.among y (subst Q (sym is) (Contains-cons x rest y (inr there)));
    }

  -- where none is left, it is made sure of each
  pub checking_all : (left : List A) → left ≡ [] → Checking P all left → (x : A) → Contains all x → P x
  checking_all left nothing so_far x there =
      elim (so_far.checked x there) [ inl sound ↦ sound | inr still ↦ let none : Contains [] x = rw nothing at still in absurd (omega (arith, none.1)) ]
