use Rattle.std.proofs.Common.{◌≡◌, inl, inr, [], ◌∷◌, refl}
use Rattle.cedar_ast.proofs.Basics.{Contains-single}
use Rattle.cedar_ast.proofs.Lists.{Contains-cons}
use Rattle.cedar_ast.specs.declared.validation_mode.ValidationMode.TheVariants.{Strict, Permissive}
use Rattle.rule_examples.proofs.subtyping_examples.entities_by_example.Goals as goal

pub returns-clause-not_less : goal.returns-clause-not_less
returns-clause-not_less c Strict color shape differ h = let same : color ∷ shape ∷ [] ≡ color ∷ [] = h in cc
returns-clause-not_less c Permissive color shape differ h =
    differ (Contains-single color shape (h shape (Contains-cons color (shape ∷ []) shape (inr (Contains-cons shape [] shape (inl refl))))))
