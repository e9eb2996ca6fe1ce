-- What the declarations of one name say together.
use Rattle.std.proofs.Common.{◌≡◌, ◌⊎◌, ◌↔◌, List, [], ◌∷◌, ◌++◌, map, ap, ◌∙◌, refl, inl, inr, arith, Contains}
use Rattle.std.specs.List.{flat_map}
use Rattle.cedar_ast.proofs.Basics.{Contains-image, Contains-single}
use Rattle.cedar_ast.proofs.Lists.{Contains-preimage}
use Rattle.cedar_schema_semantics.proofs.Definitions as any
use Rattle.cedar_schema_semantics.proofs.Definitions.{Definitions}
use Rattle.cedar_schema_semantics.proofs.OccurrenceLemmas.{Contains-flat_map, Contains-given, value_once}
use Rattle.cedar_schema_semantics.specs.Words.{ActionBody, ActionSays, Bag, CountsInEntity, CountsInRequests, EntitiesSay, EntityBody, EntitySays, Expr, IsPrincipalOrResource, PlainName, PlainUid, Reference, Requests, SameEntityBody, SameRequests, Twice, action_definition_in, action_uids, declared_actions, declared_entities, defined_actions, defined_entities, elsewhere, entity_definition_in, entity_definitions, enumerated, external, requests, standard}

-- what is declared of an entity type is a definition
abbrev pub IsDefinition : EntityBody → Type 0
IsDefinition (external parents) = ⊥
IsDefinition _ = Unit {0}

-- requests are those of a definition
abbrev pub AreRequests : Requests → Type 0
AreRequests elsewhere = ⊥
AreRequests _ = Unit {0}

-- what is declared of an entity type is a definition, or isn't one
pub entity_decided : (body : EntityBody) → IsDefinition body ⊎ ¬ IsDefinition body
entity_decided (standard parents shape tags) = inl tt
entity_decided (enumerated choices) = inl tt
entity_decided (external parents) = inr (λ is. is)

-- a definition is what its declaration gives
pub entity_given : (name : PlainName) (body : EntityBody) → IsDefinition body → Contains (entity_definition_in name body) (name, body)
entity_given name (standard parents shape tags) is = (0, omega arith, refl)
entity_given name (enumerated choices) is = (0, omega arith, refl)
entity_given name (external parents) is = absurd is

-- a declaration gives nothing but a definition, itself
pub entity_only : (name : PlainName) (body : EntityBody) (entry : PlainName × EntityBody) → Contains (entity_definition_in name body) entry
    → ((name, body) ≡ entry) × IsDefinition body
entity_only name (standard parents shape tags) entry here = (Contains-single (name, standard parents shape tags) entry here, tt)
entity_only name (enumerated choices) entry here = (Contains-single (name, enumerated choices) entry here, tt)
entity_only name (external parents) entry here = absurd (omega (arith, here.1))

-- and gives it once
pub entity_single : (name : PlainName) (body : EntityBody) (other : PlainName)
    → ¬ Twice (map (λ it. it.0) (entity_definition_in name body)) other
entity_single name (standard parents shape tags) other twice = elim twice [ inl here ↦ omega (arith, here.1.1) | inr later ↦ later ]
entity_single name (enumerated choices) other twice = elim twice [ inl here ↦ omega (arith, here.1.1) | inr later ↦ later ]
entity_single name (external parents) other twice = twice

-- a definition of an entity type says what it declares
pub entity_says_itself : (entries : List (PlainName × EntityBody)) (name : PlainName) (body : EntityBody) → IsDefinition body
    → EntitiesSay entries name body ↔ Contains (entity_definitions entries) (name, body)
entity_says_itself entries name (standard parents shape tags) is = (λ says. says, λ among. among)
entity_says_itself entries name (enumerated choices) is = (λ says. says, λ among. among)
entity_says_itself entries name (external parents) is = absurd is

-- an external declaration says that its name is declared and has no definition
pub entity_says_declared : (entries : List (PlainName × EntityBody)) (name : PlainName) (body : EntityBody) → ¬ IsDefinition body
    → EntitiesSay entries name body
    ↔ (Contains (map (λ it. it.0) entries) name × ¬ Contains (map (λ it. it.0) (entity_definitions entries)) name)
entity_says_declared entries name (external parents) is = (λ says. says, λ both. both)
entity_says_declared _ _ _ is = absurd (is tt)

-- definitions of entity types among their declarations
abbrev pub of_entity_types : Definitions PlainName EntityBody
of_entity_types = record {
  definition_in = entity_definition_in;
  IsDefinition = IsDefinition;
  decided = entity_decided;
  given = entity_given;
  only = entity_only;
  single = entity_single;
  Says = EntitiesSay;
  says_itself = entity_says_itself;
  says_declared = entity_says_declared;
}

-- a definition of an entity type is a declaration of it that isn't external
pub definition_declared : (bag : Bag) (name : PlainName) (body : EntityBody) → Contains (defined_entities bag) (name, body)
    → Contains (declared_entities bag) (name, body) × IsDefinition body
definition_declared bag = any.definition_declared of_entity_types (declared_entities bag)

-- a declaration of an entity type that isn't external is a definition of it
pub declared_definition : (bag : Bag) (name : PlainName) (body : EntityBody) → IsDefinition body
    → Contains (declared_entities bag) (name, body) → Contains (defined_entities bag) (name, body)
declared_definition bag = any.declared_definition of_entity_types (declared_entities bag)

-- what is declared of an entity type is a definition, or external
pub definition_or_external : (body : EntityBody) → IsDefinition body ⊎ ((parents : List _) × (body ≡ external parents))
definition_or_external (standard parents shape tags) = inl tt
definition_or_external (enumerated choices) = inl tt
definition_or_external (external parents) = inr (parents, refl)

-- what the declarations of an entity type say together is said of a declared one
pub said_is_declared : (bag : Bag) (name : PlainName) (body : EntityBody) → EntitySays bag name body
    → Contains (map (λ it. it.0) (declared_entities bag)) name
said_is_declared bag = any.said_declared of_entity_types (declared_entities bag)

-- what is declared of an entity type is the same as itself
pub SameEntityBody-itself : (body : EntityBody) → SameEntityBody body body
SameEntityBody-itself (standard parents shape tags) = (refl, refl)
SameEntityBody-itself (enumerated choices) = refl
SameEntityBody-itself (external parents) = tt

-- requests are the same as themselves
pub SameRequests-itself : (it : Requests) → SameRequests it it
SameRequests-itself (requests principals resources context) =
    (λ item. (λ among. among, λ among. among), λ item. (λ among. among, λ among. among), refl)
SameRequests-itself elsewhere = tt

-- where no entity type has two definitions, its declarations say one thing together
pub entity_says_once : (bag : Bag) → ((name : PlainName) → ¬ Twice (map (λ it. it.0) (defined_entities bag)) name)
    → (name : PlainName) (body other : EntityBody) → EntitySays bag name body → EntitySays bag name other
    → SameEntityBody body other
entity_says_once bag once name = by where
  key : PlainName × EntityBody → PlainName
  key it = it.0

  one : (body other : EntityBody) → Contains (defined_entities bag) (name, body) → Contains (defined_entities bag) (name, other)
      → SameEntityBody body other
  one body other first second =
      rw (← (value_once (defined_entities bag) once name body other first second)) (SameEntityBody-itself body)

  by : (body other : EntityBody) → EntitySays bag name body → EntitySays bag name other → SameEntityBody body other
  by (external ps) (external ps') first second = tt
  by (external ps) (standard ps' shape tags) first second =
      absurd (first.1 (Contains-image key (defined_entities bag) (name, standard ps' shape tags) second))
  by (external ps) (enumerated choices) first second =
      absurd (first.1 (Contains-image key (defined_entities bag) (name, enumerated choices) second))
  by (standard ps shape tags) (external ps') first second =
      absurd (second.1 (Contains-image key (defined_entities bag) (name, standard ps shape tags) first))
  by (enumerated choices) (external ps') first second =
      absurd (second.1 (Contains-image key (defined_entities bag) (name, enumerated choices) first))
  by (standard ps shape tags) (standard ps' shape' tags') first second =
      one (standard ps shape tags) (standard ps' shape' tags') first second
  by (standard ps shape tags) (enumerated choices) first second = one (standard ps shape tags) (enumerated choices) first second
  by (enumerated choices) (standard ps shape tags) first second = one (enumerated choices) (standard ps shape tags) first second
  by (enumerated choices) (enumerated choices') first second = one (enumerated choices) (enumerated choices') first second

-- a definition of an action is a declaration of it that isn't external
pub action_definition_declared : (bag : Bag) (uid : PlainUid) (it : Requests) → Contains (defined_actions bag) (uid, it)
    → (body : ActionBody) × Contains (declared_actions bag) (uid, body) × (body.applies_to ≡ it) × AreRequests it
action_definition_declared bag uid it among =
    let f = λ (each : PlainUid × ActionBody). action_definition_in each.0 each.1.applies_to in
    let found = Contains-flat_map f (declared_actions bag) (uid, it) among in
    by found.0.0 found.0.1 found.1 found.0.1.applies_to refl found.2
  where
    by : (key : PlainUid) (body : ActionBody) → Contains (declared_actions bag) (key, body) → (of : Requests)
        → body.applies_to ≡ of → Contains (action_definition_in key of) (uid, it)
        → (body : ActionBody) × Contains (declared_actions bag) (uid, body) × (body.applies_to ≡ it) × AreRequests it
    by key body there elsewhere is here = absurd (omega (arith, here.1))
    by key body there (requests principals resources context) is here =
        let same = Contains-single (key, requests principals resources context) (uid, it) here in (
          body,
          rw (ap (λ each. each.0) same) at there,
          is ∙ ap (λ each. each.1) same,
          rw (← (ap (λ each. each.1) same)) tt,
        )

-- a declaration of an action that isn't external is a definition of it
pub declared_action_definition : (bag : Bag) (uid : PlainUid) (body : ActionBody) (it : Requests)
    → Contains (declared_actions bag) (uid, body) → body.applies_to ≡ it → AreRequests it → Contains (defined_actions bag) (uid, it)
declared_action_definition bag uid body it among is are =
    Contains-given (λ (each : PlainUid × ActionBody). action_definition_in each.0 each.1.applies_to) (declared_actions bag)
    (uid, body) (uid, it) among (rw is (by it are))
  where
    by : (of : Requests) → AreRequests of → Contains (action_definition_in uid of) (uid, of)
    by (requests principals resources context) are = (0, omega arith, refl)
    by elsewhere are = absurd are

-- requests are those of a definition, or of an external action
pub requests_or_elsewhere : (it : Requests) → AreRequests it ⊎ (it ≡ elsewhere)
requests_or_elsewhere (requests principals resources context) = inl tt
requests_or_elsewhere elsewhere = inr refl

-- an action that is defined is declared
pub defined_action_is_declared : (bag : Bag) (uid : PlainUid) → Contains (map (λ it. it.0) (defined_actions bag)) uid
    → Contains (action_uids bag) uid
defined_action_is_declared bag uid among =
    let it = Contains-preimage (λ (each : PlainUid × Requests). each.0) (defined_actions bag) uid among in
    let found = action_definition_declared bag it.0.0 it.0.1 it.1 in
    rw it.2 at (Contains-image (λ (each : PlainUid × ActionBody). each.0) (declared_actions bag) (it.0.0, found.0) found.1)

-- what the declarations of an action say together is said of a declared one
pub said_action_is_declared : (bag : Bag) (uid : PlainUid) (it : Requests) → ActionSays bag uid it → Contains (action_uids bag) uid
said_action_is_declared bag uid elsewhere says = says.0
said_action_is_declared bag uid (requests principals resources context) says =
    defined_action_is_declared bag uid (Contains-image (λ (each : PlainUid × Requests). each.0) (defined_actions bag)
    (uid, requests principals resources context) says)

-- where no action has two definitions, its declarations say one thing together
pub action_says_once : (bag : Bag) → ((uid : PlainUid) → ¬ Twice (map (λ it. it.0) (defined_actions bag)) uid)
    → (uid : PlainUid) (it other : Requests) → ActionSays bag uid it → ActionSays bag uid other → it ≡ other
action_says_once bag once uid elsewhere elsewhere first second = refl
action_says_once bag once uid elsewhere (requests ps rs context) first second =
    absurd (first.1 (Contains-image (λ (each : PlainUid × Requests). each.0) (defined_actions bag) (uid, requests ps rs context) second))
action_says_once bag once uid (requests ps rs context) elsewhere first second =
    absurd (second.1 (Contains-image (λ (each : PlainUid × Requests). each.0) (defined_actions bag) (uid, requests ps rs context) first))
action_says_once bag once uid (requests ps rs context) (requests ps' rs' context') first second =
    value_once (defined_actions bag) once uid (requests ps rs context) (requests ps' rs' context') first second

-- a definition of an entity type is said
pub definition_says : (bag : Bag) (name : PlainName) (body : EntityBody) → Contains (defined_entities bag) (name, body) → EntitySays bag name body
definition_says bag name (standard ps shape tags) among = among
definition_says bag name (enumerated choices) among = among
definition_says bag name (external ps) among = absurd (definition_declared bag name (external ps) among).1

-- a definition of an action is said
pub action_definition_says : (bag : Bag) (uid : PlainUid) (it : Requests) → Contains (defined_actions bag) (uid, it) → ActionSays bag uid it
action_definition_says bag uid (requests ps rs context) among = among
action_definition_says bag uid elsewhere among = absurd (action_definition_declared bag uid elsewhere among).3

-- only definitions count
pub entity_counted : (body : EntityBody) (expr : Expr) → CountsInEntity body expr → IsDefinition body
entity_counted (standard ps shape tags) expr counts = tt
entity_counted _ expr counts = absurd counts

-- only requests of definitions count
pub requests_counted : (it : Requests) (expr : Expr) → CountsInRequests it expr → AreRequests it
requests_counted (requests ps rs context) expr counts = tt
requests_counted elsewhere expr counts = absurd counts

-- only definitions have principals and resources
pub request_placed : (it : Requests) (reference : Reference) → IsPrincipalOrResource it reference → AreRequests it
request_placed (requests ps rs context) reference place = tt
request_placed elsewhere reference place = absurd place

-- a definition that is said of an entity type is declared
pub said_definition : (bag : Bag) (name : PlainName) (body : EntityBody) → EntitySays bag name body → IsDefinition body
    → Contains (declared_entities bag) (name, body)
said_definition bag name body says is = any.said_definition of_entity_types (declared_entities bag) name body is says

-- requests of a definition that are said of an action are declared
pub said_action_definition : (bag : Bag) (uid : PlainUid) (it : Requests) → ActionSays bag uid it → AreRequests it
    → (body : ActionBody) × Contains (declared_actions bag) (uid, body) × (body.applies_to ≡ it)
said_action_definition bag uid (requests ps rs context) says are =
    let found = action_definition_declared bag uid (requests ps rs context) says in (found.0, found.1, found.2)
said_action_definition bag uid elsewhere says are = absurd are

-- an entity type that has two definitions is declared twice
pub twice_declared : (entries : List (PlainName × EntityBody)) (name : PlainName)
    → Twice (map (λ it. it.0) (flat_map (λ it. entity_definition_in it.0 it.1) entries)) name → Twice (map (λ it. it.0) entries) name
twice_declared [] name twice = twice
twice_declared (first ∷ rest) name twice = by first.1 (λ later. twice_declared rest name later) twice where
  f : PlainName × EntityBody → List (PlainName × EntityBody)
  f it = entity_definition_in it.0 it.1

  named : (key : PlainName) (of : EntityBody) → Contains rest (key, of) → (it : PlainName × EntityBody)
      → Contains (entity_definition_in key of) it → it.0 ≡ name → Contains (map (λ each. each.0) rest) name
  named key of there it here is =
      rw (same of here ∙ is) at (Contains-image (λ (each : PlainName × EntityBody). each.0) rest (key, of) there)
    where
      same : (body : EntityBody) → Contains (entity_definition_in key body) it → key ≡ it.0
      same (standard ps shape tags) one = ap (λ each. each.0) (Contains-single (key, standard ps shape tags) it one)
      same (enumerated choices) one = ap (λ each. each.0) (Contains-single (key, enumerated choices) it one)
      same (external ps) one = absurd (omega (arith, one.1))

  later_name : Contains (map (λ it. it.0) (flat_map f rest)) name → Contains (map (λ it. it.0) rest) name
  later_name among =
      let it = Contains-preimage (λ (each : PlainName × EntityBody). each.0) (flat_map f rest) name among in
      let found = Contains-flat_map f rest it.0 it.1 in
      named found.0.0 found.0.1 found.1 it.0 found.2 it.2

  by : (body : EntityBody) → (Twice (map (λ it. it.0) (flat_map f rest)) name → Twice (map (λ it. it.0) rest) name)
      → Twice (map (λ it. it.0) (entity_definition_in first.0 body ++ flat_map f rest)) name
      → Twice (map (λ it. it.0) (first ∷ rest)) name
  by (standard ps shape tags) after both = elim both [ inl here ↦ inl (here.0, later_name here.1) | inr later ↦ inr (after later) ]
  by (enumerated choices) after both = elim both [ inl here ↦ inl (here.0, later_name here.1) | inr later ↦ inr (after later) ]
  by (external ps) after both = inr (after both)
