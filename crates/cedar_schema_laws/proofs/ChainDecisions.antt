-- Whether a chain leads from one item to another is decided, where its steps are, and start from
-- listed items.
use Rattle.std.proofs.Common.{◌⊎◌, List, [], ◌∷◌, inl, inr, arith, Contains}
use Rattle.cedar_ast.proofs.Chains.{first_step, joined}
use Rattle.cedar_ast.proofs.Lists.{Contains-cons_cases}
use Rattle.cedar_ast.specs.Chain.{Chain, one, more}
use Rattle.cedar_schema_laws.proofs.ListDecisions.{Listed, decide_either, list_all}
use Rattle.cedar_schema_laws.proofs.TypeDecisions.{decide_like}
use Rattle.cedar_type_rules.proofs.Decisions.{IsDecided, decide_both}

module _ {A : Type 0} (Step : A → A → Type 0) where
  -- a chain leads from the one to the other by way of listed items alone
  abbrev Reaches : List A → A → A → Type 0
  Reaches [] a b = Step a b
  Reaches (x ∷ rest) a b = Reaches rest a b ⊎ (Reaches rest a x × Reaches rest x b)

  -- a step reaches
  reaches_one : (xs : List A) (a b : A) → Step a b → Reaches xs a b
  reaches_one [] a b step = step
  reaches_one (x ∷ rest) a b step = inl (reaches_one rest a b step)

  -- what a listed item reaches, a step to that item does
  reaches_more : (xs : List A) (a b c : A) → Contains xs b → Step a b → Reaches xs b c → Reaches xs a c
  reaches_more [] a b c among step onwards = absurd (omega (arith, among.1))
  reaches_more (x ∷ rest) a b c among step onwards =
      elim (Contains-cons_cases x rest b among) [
        | inl here ↦
            inr (
              reaches_one rest a x (rw here step),
              elim onwards [ inl straight ↦ rw here straight | inr both ↦ both.1 ],
            )
        | inr later ↦
            elim onwards [
              | inl straight ↦ inl (reaches_more rest a b c later step straight)
              | inr both ↦ inr (reaches_more rest a b x later step both.0, both.1)
            ]
      ]

  -- a chain leads to what is reached
  chain_of_reaches : (xs : List A) (a b : A) → Reaches xs a b → Chain Step a b
  chain_of_reaches [] a b step = one step
  chain_of_reaches (x ∷ rest) a b reaches =
      elim reaches [
        | inl straight ↦ chain_of_reaches rest a b straight
        | inr both ↦ joined (chain_of_reaches rest a x both.0) (chain_of_reaches rest x b both.1)
      ]

  module _ (xs : List A) (starts : (a b : A) → Step a b → Contains xs a) where
    -- what a chain leads to is reached
    reaches_of_chain : (a b : A) → Chain Step a b → Reaches xs a b
    reaches_of_chain a b (one step) = reaches_one xs a b step
    reaches_of_chain a b (more {b = c} step rest) =
        let next = first_step Step c b rest in
        reaches_more xs a c b (starts c next.0 next.1) step (reaches_of_chain c b rest)

    module _ (decide : (a b : A) → IsDecided (Step a b)) where
      -- the one reaches the other or doesn't
      decide_reaches : (ys : List A) (a b : A) → IsDecided (Reaches ys a b)
      decide_reaches [] a b = decide a b
      decide_reaches (y ∷ rest) a b =
          decide_either (decide_reaches rest a b) (decide_both (decide_reaches rest a y) (decide_reaches rest y b))

      -- a chain leads from the one to the other, or none does
      decide_chain : (a b : A) → IsDecided (Chain Step a b)
      decide_chain a b = decide_like (chain_of_reaches xs a b) (reaches_of_chain a b) (decide_reaches xs a b)

      -- the items from which a chain leads to the one are listed
      pub list_below : (upper : A) → Listed (λ lower. Chain Step lower upper)
      list_below upper =
          list_all (λ lower. Chain Step lower upper) (λ lower. decide_chain lower upper) xs
          (λ lower chain. let next = first_step Step lower upper chain in starts lower next.0 next.1)
