use Rattle.cedar_ast.proofs.FittingNames.{TypeNamesFit-parts}
use Rattle.cedar_ast.proofs.type_names.names_fit.Goals as goal

pub returns-then-are_fit : goal.returns-then-are_fit
returns-then-are_fit c =
    let parts = TypeNamesFit-parts c.args.names.now in (
      λ distinct. parts.0 (c.are_fit.ensures.0 c.if-are_fit.true, c.are_distinct.ensures.0 distinct),
      λ whole. c.are_distinct.ensures.1 (parts.1 whole).1,
    )

pub returns-else-are_fit : goal.returns-else-are_fit
returns-else-are_fit c = (λ fit. absurd cc, λ whole. c.are_fit.ensures.1 ((TypeNamesFit-parts c.args.names.now).1 whole).0)
