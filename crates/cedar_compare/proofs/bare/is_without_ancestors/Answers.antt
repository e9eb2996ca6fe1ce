use Rattle.std.proofs.Common.{ap, map, refl, sym, ◌∙◌}
use Rattle.std.proofs.lemmas.Bool.{false≢true}
use Rattle.cedar_ast.specs.EntityUID.{uid_of}
use Rattle.cedar_compare.proofs.bare.is_without_ancestors.Goals as goal

pub returns-in-Some : goal.returns-in-Some
returns-in-Some c = (
  λ wrong. absurd (false≢true wrong),
  λ none. absurd (let wrong = sym (ap (map uid_of) c.in-Some.ensures.steps) ∙ (c.ancestors.ensures.ancestors ∙ none) in cc),
)

pub returns-in-None : goal.returns-in-None
returns-in-None c = (
  λ _. sym c.ancestors.ensures.ancestors ∙ ap (map uid_of) c.in-None.ensures.steps.0,
  λ _. refl,
)
