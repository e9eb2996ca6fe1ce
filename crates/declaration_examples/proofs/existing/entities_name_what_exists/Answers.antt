use Rattle.std.proofs.Common.{◌≡◌, [], ◌∷◌, List, arith, codes, inl, inr, refl}
use Rattle.cedar_ast.proofs.Basics.{Contains-image}
use Rattle.cedar_entities.specs.Words.{Extensions, IsEntityIn, IsEntityOfKind, PlainUid, SchemaAction}
use Rattle.cedar_type_rules.proofs.ApartLemmas.{texts_differ}
use Rattle.declaration_examples.proofs.RoleLemmas.{a_written, admin_alone, choice_exists, editor_real, editor_there, names_differ, no_choice, of_two, of_two_actions, user_entry, user_real}
use Rattle.declaration_examples.proofs.existing.entities_name_what_exists.Goals as goal
use Rattle.declaration_examples.specs.Words.{List, Text, alias_name, role, roles, some_user, user_in_role}

-- a user that is an entity of the schema is of the entity type
of_user : (extensions : Extensions) (choices : List Text) (id : Text) (ancestors : List PlainUid)
    → IsEntityIn extensions (roles choices) (user_in_role id ancestors)
    → IsEntityOfKind extensions (roles choices) user_entry.1.kind (user_in_role id ancestors)
of_user extensions choices id ancestors (inl of) =
    of_two choices (λ it. IsEntityOfKind extensions (roles choices) it.kind (user_in_role id ancestors)
    → IsEntityOfKind extensions (roles choices) user_entry.1.kind (user_in_role id ancestors)) (alias_name (codes "User"))
    (λ same. absurd (names_differ role (alias_name (codes "User")) (texts_differ (codes "Role") (codes "User") refl) same))
    (λ same held. held) of.0 of.1 of.2
of_user extensions choices id ancestors (inr action) =
    absurd (let it = action.defined in
    let uid = Contains-image (λ (e : PlainUid × SchemaAction). e.0) (roles choices).actions (some_user, it.0) it.1 in
    of_two_actions (λ uid. ¬ (uid.ty.base ≡ codes "User")) (texts_differ (codes "Action") (codes "User") refl)
    (texts_differ (codes "Action") (codes "User") refl) some_user uid refl)

pub returns-clause-real : goal.returns-clause-real
returns-clause-real c =
    (user_real, (a_written, editor_real, tt, λ among. omega (arith, among.1)), tt, λ upper among. absurd (omega (arith, among.1)))

pub returns-clause-there : goal.returns-clause-there
returns-clause-there c extensions = inl (
  user_entry.1,
  (1, omega arith, refl),
  (
    ((λ name among. among), ((0, omega arith, refl), tt)),
    refl,
    record { attributes = (choice_exists (codes "admin" ∷ codes "editor" ∷ []) (codes "editor") editor_there, tt); tags = tt },
    record { above = λ upper among. absurd (omega (arith, among.1)); not_itself = λ among. omega (arith, among.1) },
  ),
)

pub returns-clause-taken_away : goal.returns-clause-taken_away
returns-clause-taken_away c extensions is =
    let of = of_user extensions (codes "admin" ∷ []) (codes "editor") [] is in
    no_choice (codes "admin" ∷ []) (codes "editor") admin_alone of.2.attributes.0

pub returns-clause-itself : goal.returns-clause-itself
returns-clause-itself c extensions is =
    let of = of_user extensions (codes "admin" ∷ []) (codes "admin") (some_user ∷ []) is in
    of.3.not_itself (0, omega arith, refl)
