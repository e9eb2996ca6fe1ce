use Rattle.std.proofs.Common.{true, [], ◌∷◌, arith, codes, refl}
use Rattle.cedar_entities.specs.Words.{IsIdOf, MayHaveId}
use Rattle.cedar_type_rules.proofs.ApartLemmas.{texts_differ}
use Rattle.declaration_examples.proofs.RoleLemmas.{a_written, admin_alone, choice_exists, editor_real, editor_there, names_differ, no_choice, of_two, user_real, view_real}
use Rattle.declaration_examples.proofs.existing.requests_name_what_exists.Goals as goal
use Rattle.declaration_examples.specs.Words.{ClosedAttributes, action_named, alias_name, end, field, record_of, role, role_type, set_of, some_user, two_roles, view_entry}

pub returns-clause-real : goal.returns-clause-real
returns-clause-real c = (user_real, view_real, user_real, (a_written, (editor_real, tt), tt, λ among. omega (arith, among.1)))

-- every id is one of a user
any_user : MayHaveId two_roles some_user
any_user = of_two (codes "admin" ∷ codes "editor" ∷ []) (λ it. IsIdOf it.kind (codes "u")) (alias_name (codes "User"))
    (λ same. absurd (names_differ role (alias_name (codes "User")) (texts_differ (codes "Role") (codes "User") refl) same)) (λ same. tt)

pub returns-clause-there : goal.returns-clause-there
returns-clause-there c extensions = (
  record {
    principal = alias_name (codes "User");
    action = action_named (codes "view");
    resource = alias_name (codes "User");
    context = record_of (field (codes "a") true (set_of role_type) end) ClosedAttributes;
  },
  (view_entry.1, (1, omega arith, refl), ((0, omega arith, refl), (0, omega arith, refl), refl)),
  record { principal_type = refl; of_action = refl; resource_type = refl },
  ((λ name among. among), (((0, omega arith, refl), tt), tt)),
  ((choice_exists (codes "admin" ∷ codes "editor" ∷ []) (codes "editor") editor_there, tt), tt),
  any_user,
  any_user,
)

pub returns-clause-taken_away : goal.returns-clause-taken_away
returns-clause-taken_away c extensions is = no_choice (codes "admin" ∷ []) (codes "editor") admin_alone is.4.0.0
