use Rattle.std.proofs.Common.{sym, ◌∙◌}
use Rattle.std.proofs.lemmas.Bool.{false≢true}
use Rattle.cedar_ast.proofs.Names.{entity_type_eq-same}
use Rattle.cedar_compare.proofs.existing.is_action_of.Goals as goal

-- a uid of the type counts where it exists
pub returns-then-eq : goal.returns-then-eq
returns-then-eq c =
    let named = sym c.entity_type.ensures.name
    ∙ (entity_type_eq-same c.entity_type.result.now c.args.name.now).0 (sym c.eq.ensures ∙ c.if-eq.true) in
    (λ yes. (named, c.entity_exists.ensures.0 yes), λ of. c.entity_exists.ensures.1 of.1)

-- one of another type doesn't
pub returns : goal.returns
returns c = (
  λ wrong. absurd (false≢true wrong),
  λ of. absurd (false≢true (sym c.if-eq.false ∙ (c.eq.ensures
      ∙ (entity_type_eq-same c.entity_type.result.now c.args.name.now).1 (c.entity_type.ensures.name ∙ of.0)))),
)
