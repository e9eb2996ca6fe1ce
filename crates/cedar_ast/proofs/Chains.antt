-- Chains of steps: how they begin and end, one after another, over other steps, and what every
-- chain keeps.
use Rattle.cedar_ast.specs.Chain.{Chain, one, more}

module _ {A : Type 0} {Step : A → A → Type 0} where
  -- one chain after another
  pub joined : {a b c : A} → Chain Step a b → Chain Step b c → Chain Step a c
  joined (one s) onwards = more s onwards
  joined (more s rest) onwards = more s (joined rest onwards)

  -- what each step keeps, a chain keeps
  pub kept_along : (P : A → Type 0) → ((k l : A) → P k → Step k l → P l) → {a b : A} → P a → Chain Step a b → P b
  kept_along P keeps {a = a} {b = b} here (one s) = keeps a b here s
  kept_along P keeps {a = a} here (more s rest) = kept_along P keeps (keeps a _ here s) rest

  -- what each first step gives and each further step keeps, a chain has
  pub held_after : (P : A → Type 0) (a : A) → ((l : A) → Step a l → P l) → ((k l : A) → P k → Step k l → P l)
      → {b : A} → Chain Step a b → P b
  held_after P a starts keeps {b = b} (one s) = starts b s
  held_after P a starts keeps (more s rest) = kept_along P keeps (starts _ s) rest

-- where each step is a chain of other steps, so is a chain
pub refined : {A : Type 0} {Step Other : A → A → Type 0} → ((k l : A) → Step k l → Chain Other k l) → {a b : A}
    → Chain Step a b → Chain Other a b
refined each {a = a} {b = b} (one s) = each a b s
refined each {a = a} (more s rest) = joined (each a _ s) (refined each rest)

-- a chain begins with a step
pub first_step : {A : Type 0} (Step : A → A → Type 0) (a b : A) → Chain Step a b → (c : A) × Step a c
first_step Step a b (one step) = (b, step)
first_step Step a b (more {b = c} step rest) = (c, step)

-- and ends with one
pub last_step : {A : Type 0} (Step : A → A → Type 0) (a b : A) → Chain Step a b → (c : A) × Step c b
last_step Step a b (one step) = (a, step)
last_step Step a b (more {b = c} step rest) = last_step Step c b rest
