use Rattle.std.proofs.Common.{◌≡◌, [], ◌∷◌, arith, codes, refl}
use Rattle.cedar_entities.specs.Words.{IsIdOf}
use Rattle.cedar_type_rules.proofs.ApartLemmas.{texts_differ}
use Rattle.declaration_examples.proofs.RoleLemmas.{names_differ, of_two, of_two_actions}
use Rattle.declaration_examples.proofs.existing.actions_alone_exist.Goals as goal
use Rattle.declaration_examples.specs.Words.{action_named, alias_name, role}

pub returns-clause-external : goal.returns-clause-external
returns-clause-external c = record {
  choice = of_two (codes "admin" ∷ []) (λ it. IsIdOf it.kind (codes "read")) (alias_name (codes "Action"))
      (λ same. absurd (names_differ role (alias_name (codes "Action")) (texts_differ (codes "Role") (codes "Action") refl) same))
      (λ same. absurd (names_differ (alias_name (codes "User")) (alias_name (codes "Action")) (texts_differ (codes "User") (codes "Action") refl) same));
  action = λ of_actions. (0, omega arith, refl);
}

pub returns-clause-other : goal.returns-clause-other
returns-clause-other c exists =
    of_two_actions (λ uid. ¬ (uid.eid ≡ codes "write")) (texts_differ (codes "read") (codes "write") refl)
    (texts_differ (codes "view") (codes "write") refl) (action_named (codes "write")) (exists.action refl) refl
