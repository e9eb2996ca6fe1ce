use Rattle.std.proofs.Common.{[], ◌∷◌, arith, codes, refl}
use Rattle.declaration_examples.proofs.RoleLemmas.{admin_alone, choice_exists, no_choice}
use Rattle.declaration_examples.proofs.existing.records_and_sets_are_looked_into.Goals as goal

pub returns-clause-there : goal.returns-clause-there
returns-clause-there c = ((choice_exists (codes "admin" ∷ []) (codes "admin") (0, omega arith, refl), tt), tt)

pub returns-clause-deep : goal.returns-clause-deep
returns-clause-deep c names = no_choice (codes "admin" ∷ []) (codes "editor") admin_alone names.0.0

pub returns-clause-argument : goal.returns-clause-argument
returns-clause-argument c function = tt
