use Rattle.std.proofs.Common.{[], ◌∷◌, arith, codes, refl, subst, sym, ◌≡◌, Contains, ◌∙◌}
use Rattle.cedar_ast.proofs.Basics.{Contains-single}
use Rattle.cedar_entities.proofs.KeptLemmas.{kept_by_parts}
use Rattle.cedar_entities.specs.Words.{Exists, PlainName}
use Rattle.declaration_examples.proofs.RoleLemmas.{admin_alone, choice_exists, editor_real, editor_there, no_choice, role_entry}
use Rattle.declaration_examples.proofs.existing.choices_taken_away_are_not_included.Goals as goal
use Rattle.declaration_examples.specs.Words.{no_tree, one_role, role, role_named, role_type, set_value, tree, two_roles, uid_value}

pub returns-clause-added : goal.returns-clause-added
returns-clause-added c extensions = kept_by_parts extensions (Exists one_role) (Exists two_roles) role_type role_type
    (record {
      values = λ name among. among;
      ids = λ name among uid real both. (let is : uid.ty ≡ role = both.0 ∙ sym (Contains-single role name among) in
          let admin = Contains-single (codes "admin") uid.eid (both.1.choice (role_entry (codes "admin" ∷ [])).1
          (subst (λ (n : PlainName). Contains one_role.entity_types (n, (role_entry (codes "admin" ∷ [])).1)) (sym is) (0, omega arith, refl))) in
          subst (λ (n : PlainName). Exists two_roles (record { ty = n; eid = uid.eid })) (sym is)
          (choice_exists (codes "admin" ∷ codes "editor" ∷ []) uid.eid
          (subst (Contains (codes "admin" ∷ codes "editor" ∷ [])) admin (0, omega arith, refl))));
    })

pub returns-clause-taken_away : goal.returns-clause-taken_away
returns-clause-taken_away c extensions within =
    no_choice (codes "admin" ∷ []) (codes "editor") admin_alone
    (within (uid_value (role_named (codes "editor"))) editor_real (0, omega arith, refl)
    (choice_exists (codes "admin" ∷ codes "editor" ∷ []) (codes "editor") editor_there)).1

pub returns-clause-any_entity : goal.returns-clause-any_entity
returns-clause-any_entity c extensions within =
    no_choice (codes "admin" ∷ []) (codes "editor") admin_alone
    (within (uid_value (role_named (codes "editor"))) editor_real tt
    (choice_exists (codes "admin" ∷ codes "editor" ∷ []) (codes "editor") editor_there)).1

pub returns-clause-any_set : goal.returns-clause-any_set
returns-clause-any_set c extensions within =
    no_choice (codes "admin" ∷ []) (codes "editor") admin_alone
    (within (set_value (tree (uid_value (role_named (codes "editor"))) no_tree)) (editor_real, tt) tt
    (choice_exists (codes "admin" ∷ codes "editor" ∷ []) (codes "editor") editor_there, tt)).1.0
