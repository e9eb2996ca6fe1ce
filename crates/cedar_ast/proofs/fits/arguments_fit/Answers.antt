use Rattle.std.proofs.Common.{refl, inl, inr}
use Rattle.cedar_ast.proofs.TreeLemmas.{ArgumentsFit-none, ArgumentsFit-no_types}
use Rattle.cedar_ast.proofs.fits.arguments_fit.Goals as goal

pub returns : goal.returns
returns c = (
  λ _. c.loop-arg.invariant.0 (elim c.in-None.ensures.steps [
    | inl first ↦ ArgumentsFit-none _ _ _ first.1.0
    | inr second ↦ ArgumentsFit-no_types _ _ _ second.1.0
  ]),
  λ _. refl,
)
