-- What is made sure of the members of a list, one after another.
use Rattle.std.proofs.Common.{◌≡◌, ◌⊎◌, List, [], ◌∷◌, inl, inr, refl, subst, sym, ⊎_elim, Contains}
use Rattle.cedar_ast.proofs.Basics.{Contains-none}
use Rattle.cedar_ast.proofs.Lists.{Contains-cons, Contains-cons_cases}

-- of each member something is made sure, or it is left; and what is left is a member
pub record SureSoFar {A : Type 0} (P : A → Type 0) (all left : List A) : Type 0 where
  pub sure : (x : A) → Contains all x → P x ⊎ Contains left x
  pub among : (x : A) → Contains left x → Contains all x

module _ {A : Type 0} where
  -- at first all are left
  pub sure_none : (P : A → Type 0) (all left : List A) → left ≡ all → SureSoFar P all left
  sure_none P all left same = subst (SureSoFar P all) (sym same) (record { sure = λ x there. inr there; among = λ x there. there })

  -- the next one is a member
  pub sure_here : (P : A → Type 0) (all left rest : List A) (first : A) → left ≡ first ∷ rest → SureSoFar P all left → Contains all first
  sure_here P all left rest first is so_far =
      so_far.among first (subst (λ xs. Contains xs first) (sym is) (Contains-cons first rest first (inl refl)))

  -- it is made sure of one more, where what was sure of others still is
  pub sure_more : (P Q : A → Type 0) (all left rest : List A) (first : A) → left ≡ first ∷ rest → ((x : A) → P x → Q x) → Q first
      → SureSoFar P all left → SureSoFar Q all rest
  sure_more P Q all left rest first is on here so_far = record {
    sure = λ x among. ⊎_elim
        (λ sound. inl (on x sound))
        (λ still. ⊎_elim (λ same. inl (subst Q same here)) (λ later. inr later)
        (Contains-cons_cases first rest x (subst (λ xs. Contains xs x) is still)))
        (so_far.sure x among);
    among = λ x there. so_far.among x (subst (λ xs. Contains xs x) (sym is) (Contains-cons first rest x (inr there)));
  }

  -- where none is left, it is made sure of each
  pub sure_all : (P : A → Type 0) (all left : List A) → left ≡ [] → SureSoFar P all left → (x : A) → Contains all x → P x
  sure_all P all left nothing so_far x among = ⊎_elim
      (λ sound. sound)
      (λ still. absurd (Contains-none x (subst (λ xs. Contains xs x) nothing still)))
      (so_far.sure x among)
