-- What is elaborated of the requests of an action.
use Rattle.std.proofs.Common.{◌≡◌, List, [], ◌∷◌, Option, Some, map, ap, refl, inl, inr, arith}
use Rattle.std.specs.Option.{unwrap_or}
use Rattle.cedar_builder.specs.Words.{ActionKind, AreNamed, ElaboratesAs, EntityType, Expr, Fault, IsElaboratedKind, IsRequestTypeFault, IsRequestsFault, Names, PlainName, PlainUid, Reference, SameItems, Ty, TypeScope, defined_action, external_action, held_names, kind_context, kind_principals, kind_resources, requests, type_name}

-- what has the same items as the empty list is empty
pub SameItems-none : {A : Type 0} (items : List A) → SameItems items [] → items ≡ []
SameItems-none [] same = refl
SameItems-none (item ∷ items) same = absurd (omega (arith, ((same item).0 (0, omega arith, refl)).1))

-- names that have the same items as those that references resolve to are just these
pub named_by : (names : Names) (references : List Reference) (types : List EntityType) (stated : List PlainName)
    → AreNamed names references (map type_name types) → SameItems stated (map type_name types) → AreNamed names references stated
named_by names references types stated named items name = (
  λ among. (named name).0 ((items name).0 among),
  λ by. (items name).1 ((named name).1 by),
)

-- a kind with these principals, these resources and this context is elaborated
pub kind_elaborated : (scope : TypeScope) (principals resources : List Reference) (context : Expr) (ty : Ty) (kind : ActionKind)
    → AreNamed (held_names scope.defs.now) principals (kind_principals kind)
    → AreNamed (held_names scope.defs.now) resources (kind_resources kind) → kind_context kind ≡ Some ty
    → ElaboratesAs scope context ty → IsElaboratedKind scope (requests principals resources context) kind
kind_elaborated scope principals resources context ty (defined_action ps rs other) named others is elaborated =
    (named, others, rw (ap (λ (each : Option Ty). unwrap_or each ty) is) elaborated)
kind_elaborated scope principals resources context ty external_action named others is elaborated = cc

-- a refusal of principals is one of the requests
pub principals_fault : (scope : TypeScope) (types : List PlainName) (uid : PlainUid) (principals resources : List Reference)
    (context : Expr) (fault : Fault) → IsRequestTypeFault (held_names scope.defs.now) types principals fault
    → IsRequestsFault scope types uid (requests principals resources context) fault
principals_fault scope types uid principals resources context fault refused =
    elim refused [ inl wanting ↦ inl wanting | inr place ↦ inr (inr (inr (place.0, inl place.1, place.2))) ]

-- and so is one of resources
pub resources_fault : (scope : TypeScope) (types : List PlainName) (uid : PlainUid) (principals resources : List Reference)
    (context : Expr) (fault : Fault) → IsRequestTypeFault (held_names scope.defs.now) types resources fault
    → IsRequestsFault scope types uid (requests principals resources context) fault
resources_fault scope types uid principals resources context fault refused =
    elim refused [ inl wanting ↦ inl wanting | inr place ↦ inr (inr (inr (place.0, inr place.1, place.2))) ]
