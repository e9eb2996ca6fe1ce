-- Where no chain of steps leads back, and the steps end at listed items, what an item has by what
-- it steps to each has.
use Rattle.std.proofs.Common.{◌≡◌, ◌≢◌, ℕ, zero, suc, List, [], ◌∷◌, length, inl, inr, sym, ◌∙◌, refl, arith, Contains}
use Rattle.cedar_ast.proofs.Chains.{last_step}
use Rattle.cedar_ast.proofs.Lists.{Contains-cons, Contains-cons_cases}
use Rattle.cedar_ast.specs.Chain.{Chain, one, more}

-- a list without one of its items is shorter by one, and has each other item
taken_out : {A : Type 0} (xs : List A) (x : A) → Contains xs x → (less : List A) × (length xs ≡ suc (length less))
    × ((y : A) → Contains xs y → x ≢ y → Contains less y)
taken_out [] x among = absurd (omega (arith, among.1))
taken_out (first ∷ rest) x among =
    elim (Contains-cons_cases first rest x among) [
      | inl here ↦ (
        rest,
        omega arith,
        λ y there other. elim (Contains-cons_cases first rest y there) [
          | inl same ↦ absurd (other (sym here ∙ same))
          | inr later ↦ later
        ],
      )
      | inr later ↦
          let less = taken_out rest x later in (
            first ∷ less.0,
            omega (arith, less.1),
            λ y there other. Contains-cons first less.0 y (elim (Contains-cons_cases first rest y there) [
              | inl same ↦ inl same
              | inr after ↦ inr (less.2 y after other)
            ]),
          )
    ]

module _ {A : Type 0} (Step : A → A → Type 0) (acyclic : (a : A) → ¬ Chain Step a a) (P : A → Type 0)
    (along : (a : A) → ((b : A) → Step a b → P b) → P a) where
  -- an item has it, where all that chains lead to from it is among some listed items
  from_left : (count : ℕ) (left : List A) → length left ≡ count → (a : A) → ((b : A) → Chain Step a b → Contains left b) → P a
  from_left zero left counted a within = along a (λ b step. absurd (omega (arith, counted, (within b (one step)).1)))
  from_left (suc count) left counted a within =
      along a (λ b step.
      let less = taken_out left b (within b (one step)) in
      from_left count less.0 (omega (arith, counted, less.1)) b
      (λ c onwards. less.2 c (within c (more step onwards)) (λ same. acyclic b (rw (← same) at onwards))))

  -- each item has it
  pub by_steps : (xs : List A) → ((a b : A) → Step a b → Contains xs b) → (a : A) → P a
  by_steps xs ends a =
      from_left (length xs) xs refl a (λ b chain. let last = last_step Step a b chain in ends last.0 b last.1)
