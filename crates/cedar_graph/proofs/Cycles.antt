-- Chains of targets that lead back: each number on one has a list of its own.
use Rattle.std.proofs.Common.{ℕ, ◌<◌, Contains, Vec, List, length, subst, inl, inr}
use Rattle.std.proofs.lemmas.Bool.{cases_lt}
use Rattle.cedar_ast.proofs.Chains.{first_step, refined}
use Rattle.cedar_graph.proofs.KeyedEdges.{nothing_in_nil}
use Rattle.cedar_graph.proofs.Lists.{items_at-past}
use Rattle.cedar_graph.specs.Words.{Chain, IsTarget, LeadsTo, more, one}

module _ {Z : Type 0} (targets : List (Vec ℕ Z)) where
  -- what has a target has a list
  has_list : (from to : ℕ) → IsTarget targets from to → from < length targets
  has_list from to edge = elim (cases_lt from (length targets)) [
    | inl below ↦ below
    | inr past ↦ absurd (nothing_in_nil to (subst (λ xs. Contains xs to) (items_at-past targets from past) edge))
  ]

  -- a chain to a number that has a list goes over numbers that have one
  led : {a b : ℕ} → b < length targets → Chain (IsTarget targets) a b → Chain (LeadsTo targets) a b
  led last (one edge) = one (edge, last)
  led {b = b} last (more {b = c} edge rest) =
      let next = first_step (IsTarget targets) c b rest in
      more (edge, has_list c next.0 next.1) (led last rest)

  -- so does one that leads back
  pub led_back : (n : ℕ) → Chain (IsTarget targets) n n → Chain (LeadsTo targets) n n
  led_back n chain =
      let next = first_step (IsTarget targets) n n chain in
      led (has_list n next.0 next.1) chain

  -- and the other way round
  pub back_by_targets : (n : ℕ) → Chain (LeadsTo targets) n n → Chain (IsTarget targets) n n
  back_by_targets n chain = refined (λ k l step. one step.0) chain
