use Rattle.std.proofs.Common.{[], ◌∷◌, refl, inl, inr, arith, codes}
use Rattle.declaration_examples.proofs.examples.enumerated_types_have_no_parents.Goals as goal
use Rattle.declaration_examples.specs.Words.{Entity, refer_here}

pub returns : goal.returns
returns c extensions = (
  codes "red" ∷ [],
  refer_here Entity (codes "Paint") ∷ [],
  refer_here Entity (codes "Paint"),
  (0, omega arith, refl),
  (1, omega arith, refl),
  (0, omega arith, refl),
  inl (refl, inr (tt, (2, omega arith, refl))),
)
