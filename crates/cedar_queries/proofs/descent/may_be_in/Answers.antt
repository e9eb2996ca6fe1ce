use Rattle.std.proofs.Common.{inl, inr, refl, sym, ◌∙◌}
use Rattle.std.proofs.lemmas.Bool.{false≢true}
use Rattle.cedar_ast.proofs.Names.{entity_type_eq-same}
use Rattle.cedar_queries.proofs.descent.may_be_in.Goals as goal
use Rattle.cedar_queries.proofs.descent.may_be_in.Goals.{then-eq-via-then-eq, then-eq-via-else-eq+then-is_descendant}

pub returns-then-eq : goal.returns-then-eq
returns-then-eq c = (
  λ _. elim c.then-eq.branch [
    | then-eq-via-then-eq w ↦
        inl ((entity_type_eq-same c.args.lower.now c.args.upper.now).0 (sym c.eq.ensures ∙ w.if-eq.true))
    | then-eq-via-else-eq+then-is_descendant w ↦ inr (inl (w.is_descendant.ensures.0 w.if-is_descendant.true))
  ],
  λ _. refl,
)

pub returns : goal.returns
returns c = (
  λ found. inr (inr (c.has_action_below.ensures.0 found)),
  elim [
    | inl same ↦ absurd (false≢true (sym c.if-eq.false
        ∙ (c.eq.ensures ∙ (entity_type_eq-same c.args.lower.now c.args.upper.now).1 same)))
    | inr (inl below) ↦ absurd (false≢true (sym c.if-is_descendant.false ∙ c.is_descendant.ensures.1 below))
    | inr (inr action) ↦ c.has_action_below.ensures.1 action
  ],
)
