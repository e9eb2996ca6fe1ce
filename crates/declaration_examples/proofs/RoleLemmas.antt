-- What exists in the schemas of roles.
use Rattle.std.proofs.Common.{◌≡◌, inl, inr, refl, ap, subst, List, [], ◌∷◌, Contains, arith, codes}
use Rattle.cedar_ast.proofs.Basics.{Contains-single}
use Rattle.cedar_ast.proofs.Lists.{Contains-cons_cases}
use Rattle.cedar_entities.specs.Words.{Exists, IsIdOf, IsText, IsValue, PlainName, PlainUid, SchemaEntityType}
use Rattle.cedar_type_rules.proofs.ApartLemmas.{texts_differ}
use Rattle.declaration_examples.specs.Words.{Text, action_named, alias_name, enumerated_kind, role, role_named, role_type, roles, some_user, type_entry, uid_value, with_attribute}

-- the entry of roles, and that of users
abbrev pub role_entry : List Text → PlainName × SchemaEntityType
role_entry choices = type_entry role (enumerated_kind choices) []

abbrev pub user_entry : PlainName × SchemaEntityType
user_entry = type_entry (alias_name (codes "User")) (with_attribute role_type) (alias_name (codes "User") ∷ [])

-- an entity type of a name is one of the two
pub of_two : (choices : List Text) (P : SchemaEntityType → Type 0) (name : PlainName)
    → (role ≡ name → P (role_entry choices).1) → (alias_name (codes "User") ≡ name → P user_entry.1) → (it : SchemaEntityType)
    → Contains (role_entry choices ∷ user_entry ∷ []) (name, it) → P it
of_two choices P name as_role as_user it there = elim (Contains-cons_cases (role_entry choices) (user_entry ∷ []) (name, it) there) [
  | inl same ↦
      subst P (ap (λ (e : PlainName × SchemaEntityType). e.1) same) (as_role (ap (λ (e : PlainName × SchemaEntityType). e.0) same))
  | inr later ↦
      elim (Contains-cons_cases user_entry [] (name, it) later) [
        | inl same ↦
            subst P (ap (λ (e : PlainName × SchemaEntityType). e.1) same) (as_user (ap (λ (e : PlainName × SchemaEntityType). e.0) same))
        | inr none ↦ absurd (omega (arith, none.1))
      ]
]

-- base names that a test tells apart are of other names
pub names_differ : (a b : PlainName) → ¬ (a.base ≡ b.base) → ¬ (a ≡ b)
names_differ a b differ same = differ (ap (λ (n : PlainName). n.base) same)

-- a choice exists
pub choice_exists : (choices : List Text) (id : Text) → Contains choices id → Exists (roles choices) (role_named id)
choice_exists choices id among = record {
  choice = of_two choices (λ it. IsIdOf it.kind id) role (λ same. among)
      (λ same. absurd (names_differ (alias_name (codes "User")) role (texts_differ (codes "User") (codes "Role") refl) same));
  action = λ of_actions. absurd (texts_differ (codes "Role") (codes "Action") refl of_actions);
}

-- and nothing else of its type
pub no_choice : (choices : List Text) (id : Text) → ¬ Contains choices id → ¬ Exists (roles choices) (role_named id)
no_choice choices id absent exists = absent (exists.choice (role_entry choices).1 (0, omega arith, refl))

-- the choices of one role, and of two
pub admin_alone : ¬ Contains (codes "admin" ∷ []) (codes "editor")
admin_alone among = elim (Contains-cons_cases (codes "admin") [] (codes "editor") among) [
  | inl same ↦ texts_differ (codes "admin") (codes "editor") refl same
  | inr none ↦ omega (arith, none.1)
]

-- an entity of the role is one of the language
pub editor_real : IsValue (uid_value (role_named (codes "editor")))
unfolding lib.Utf8.encode
editor_real = (
  (refl, (λ i part below. absurd (omega (arith, below))), λ reserved. elim reserved [ inl same ↦ absurd cc | inr none ↦ omega (arith, none.1) ]),
  (codes "editor", (refl, refl)),
)

-- so is the user
pub user_real : IsValue (uid_value some_user)
unfolding lib.Utf8.encode
user_real = (
  (refl, (λ i part below. absurd (omega (arith, below))), λ reserved. elim reserved [ inl same ↦ absurd cc | inr none ↦ omega (arith, none.1) ]),
  (codes "u", (refl, refl)),
)

-- and the action
pub view_real : IsValue (uid_value (action_named (codes "view")))
unfolding lib.Utf8.encode
view_real = (
  (refl, (λ i part below. absurd (omega (arith, below))), λ reserved. elim reserved [ inl same ↦ absurd cc | inr none ↦ omega (arith, none.1) ]),
  (codes "view", (refl, refl)),
)

-- the name of an attribute is a text
pub a_written : IsText (codes "a")
unfolding lib.Utf8.encode
a_written = (codes "a", (refl, refl))

-- it is one of two choices
pub editor_there : Contains (codes "admin" ∷ codes "editor" ∷ []) (codes "editor")
editor_there = (1, omega arith, refl)

-- an action of the schema is of one of two uids
pub of_two_actions : (P : PlainUid → Type 0) → P (action_named (codes "read")) → P (action_named (codes "view")) → (uid : PlainUid)
    → Contains (action_named (codes "read") ∷ action_named (codes "view") ∷ []) uid → P uid
of_two_actions P read view uid among = elim (Contains-cons_cases (action_named (codes "read")) (action_named (codes "view") ∷ []) uid among) [
  | inl same ↦ subst P same read
  | inr later ↦ subst P (Contains-single (action_named (codes "view")) uid later) view
]
