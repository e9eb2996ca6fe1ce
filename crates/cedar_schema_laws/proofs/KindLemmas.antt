-- The kind that fits what is declared fits what is the same, where the same names are defined.
use Rattle.std.proofs.Common.{◌↔◌, List, Option, Some, None, sym, ◌∙◌, Contains}
use Rattle.cedar_schema_laws.specs.Words.{ActionKind, AreDeclaredTags, Defined, EntityBody, EntityTypeKind, Expr, IsDeclaredActionKind, IsDeclaredKind, IsNamedBy, PlainName, Reference, Requests, SameEntityBody, SameItems, SameRequests, Ty, defined_action, elsewhere, enumerated, enumerated_kind, external, external_action, external_kind, names_of, requests, standard, standard_kind}
use Rattle.cedar_schema_semantics.proofs.DefinedLemmas.{SameDefined, resolves_there, elaborated_there}

module _ (defined other : Defined) (same : SameDefined defined other) where
  -- tags fit alike
  tags_there : (tags : Option Expr) (ty : Option Ty) → AreDeclaredTags defined tags ty → AreDeclaredTags other tags ty
  tags_there None None fits = tt
  tags_there (Some expr) (Some ty) fits = elaborated_there defined other same fits
  tags_there _ _ fits = absurd fits

  -- a kind fits what is the same
  pub kind_there : (body found : EntityBody) (kind : EntityTypeKind) → SameEntityBody body found
      → IsDeclaredKind defined body kind → IsDeclaredKind other found kind
  kind_there (standard ps shape tags) (standard ps' shape' tags') (standard_kind fields openness ty) alike fits =
      (rw alike.0 at (elaborated_there defined other same fits.0), fits.1, rw alike.1 at (tags_there tags ty fits.2))
  kind_there (enumerated choices) (enumerated others) (enumerated_kind ids) alike fits = sym alike ∙ fits
  kind_there (external ps) (external ps') external_kind alike fits = tt
  kind_there _ _ _ alike fits = absurd assumption

  -- what some references name the same name
  named_there : (references others : List Reference) (name : PlainName) → SameItems references others
      → IsNamedBy (names_of defined) references name → IsNamedBy (names_of other) others name
  named_there references others name alike (reference, among, resolves) =
      (reference, (alike reference).0 among, resolves_there defined other same reference name resolves)

-- and the other way round
named_both : (defined other : Defined) → SameDefined defined other → SameDefined other defined
    → (references others names : List _) → SameItems references others
    → ((name : PlainName) → Contains names name ↔ IsNamedBy (names_of defined) references name) → (name : PlainName)
    → Contains names name ↔ IsNamedBy (names_of other) others name
named_both defined other same back references others names alike each name = (
  λ among. named_there defined other same references others name alike ((each name).0 among),
  λ named. (each name).1 (named_there other defined back others references name (λ item. ((alike item).1, (alike item).0)) named),
)

-- the kind of an action fits what is the same
pub action_kind_there : (defined other : Defined) → SameDefined defined other → SameDefined other defined
    → (body found : Requests) (kind : ActionKind) → SameRequests body found → IsDeclaredActionKind defined body kind
    → IsDeclaredActionKind other found kind
action_kind_there defined other same back (requests ps rs context) (requests ps' rs' context')
    (defined_action principals resources ty) alike fits = (
      named_both defined other same back ps ps' principals alike.0 fits.0,
      named_both defined other same back rs rs' resources alike.1 fits.1,
      rw alike.2 at (elaborated_there defined other same fits.2),
    )
action_kind_there defined other same back elsewhere elsewhere external_action alike fits = tt
action_kind_there _ _ _ _ _ _ _ alike fits = absurd assumption
