use Rattle.std.proofs.Common.{[], ◌∷◌, arith, codes, refl}
use Rattle.cedar_type_rules.proofs.ApartLemmas.{texts_differ}
use Rattle.declaration_examples.proofs.RoleLemmas.{admin_alone, choice_exists, names_differ, no_choice, of_two}
use Rattle.declaration_examples.proofs.existing.choices_alone_exist.Goals as goal
use Rattle.declaration_examples.specs.Words.{alias_name, role}
use Rattle.cedar_entities.specs.Exists.{IsIdOf}

pub returns-clause-choice : goal.returns-clause-choice
returns-clause-choice c = choice_exists (codes "admin" ∷ []) (codes "admin") (0, omega arith, refl)

pub returns-clause-other : goal.returns-clause-other
returns-clause-other c = no_choice (codes "admin" ∷ []) (codes "editor") admin_alone

pub returns-clause-undeclared : goal.returns-clause-undeclared
returns-clause-undeclared c id = record {
  choice = of_two (codes "admin" ∷ []) (λ it. IsIdOf it.kind id) (alias_name (codes "Team"))
      (λ same. absurd (names_differ role (alias_name (codes "Team")) (texts_differ (codes "Role") (codes "Team") refl) same))
      (λ same. absurd (names_differ (alias_name (codes "User")) (alias_name (codes "Team")) (texts_differ (codes "User") (codes "Team") refl) same));
  action = λ of_actions. absurd (texts_differ (codes "Team") (codes "Action") refl of_actions);
}
