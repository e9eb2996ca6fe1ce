-- Requests that the new version of a schema lacks, and environments of which it keeps all.
use Rattle.std.proofs.Common.{◌≡◌, List, Option, Some, None, refl, ap, subst, sym, ◌∙◌, Contains}
use Rattle.cedar_compare.proofs.LostLemmas.{choices_of_id, id_of_choices}
use Rattle.cedar_compare.specs.Words.{ActionKind, AreChoicesAt, Environment, Extensions, Has, IncludedBetween, IsEnvironmentOf, IsIdOf, IsKeyed, IsLostRequest, IsOfTypes, IsRealRequest, IsRequestIn, IsRequestOf, IsUidOfType, IsUidOutside, KeepsRequest, LacksChoice, MayHave, MayHaveId, NamesWhatExists, PlainName, PlainRequest, PlainSchema, PlainUid, SchemaAction, SchemaEntityType, Text, Ty, defined_action, external_action}

module _ (schema : PlainSchema) (keyed : IsKeyed schema) where
  -- the schema may have the uid where the choices of its type say so
  pub may_have_id : (name : PlainName) (choices : Option (List Text)) (uid : PlainUid) → AreChoicesAt schema name choices
      → uid.ty ≡ name → MayHave choices uid.eid → MayHaveId schema uid
  may_have_id name None uid at named may = λ it among.
      choices_of_id it.kind uid.eid
      (subst (λ c. MayHave c uid.eid) (sym (at it (subst (λ n. Contains schema.entity_types (n, it)) named among))) tt)
  may_have_id name (Some choices) uid (one, there, are) named may = λ it among.
      let same : one ≡ it = keyed.types name one it there (subst (λ n. Contains schema.entity_types (n, it)) named among) in
      subst (λ (t : SchemaEntityType). IsIdOf t.kind uid.eid) same
      (choices_of_id one.kind uid.eid (subst (λ c. MayHave c uid.eid) (sym are) may))

  -- and the choices say so where it may have the uid
  pub has_id : (name : PlainName) (choices : Option (List Text)) (uid : PlainUid) → AreChoicesAt schema name choices
      → uid.ty ≡ name → MayHaveId schema uid → MayHave choices uid.eid
  has_id name None uid at named may = tt
  has_id name (Some choices) uid (one, there, are) named may =
      subst (λ c. MayHave c uid.eid) are
      (id_of_choices one.kind uid.eid (may one (subst (λ n. Contains schema.entity_types (n, one)) (sym named) there)))

  -- a choice that the choices lack is one that the schema's type lacks
  pub lacks_choice : (name : PlainName) (choices : Option (List Text)) (uid : PlainUid) → AreChoicesAt schema name choices
      → uid.ty ≡ name → ¬ MayHave choices uid.eid → LacksChoice schema uid
  lacks_choice name None uid at named lacks = absurd (lacks tt)
  lacks_choice name (Some choices) uid (one, there, are) named lacks =
      (one, subst (λ n. Contains schema.entity_types (n, one)) (sym named) there, λ may. lacks (subst (λ c. MayHave c uid.eid) are may))

-- a schema may not have a uid whose type lacks the choice
pub lacking : (schema : PlainSchema) (uid : PlainUid) → LacksChoice schema uid → ¬ MayHaveId schema uid
lacking schema uid (it, there, lacks) may = lacks (id_of_choices it.kind uid.eid (may it there))

-- what is found of the choices of two types is found of their uids
pub uid_found : (old new : PlainSchema) → IsKeyed old → IsKeyed new → (name : PlainName) (choices others : Option (List Text))
    → AreChoicesAt old name choices → AreChoicesAt new name others → (o : Option PlainUid)
    → ((uid : PlainUid) → o ≡ Some uid → (uid.ty ≡ name) × MayHave choices uid.eid × ¬ MayHave others uid.eid)
    → (o ≡ None → (id : Text) → MayHave choices id → MayHave others id)
    → IsUidOutside old new name o
uid_found old new keyed keyed' name choices others at at' None some none =
    λ uid of. may_have_id new keyed' name others uid at' of.0 (none refl uid.eid (has_id old keyed name choices uid at of.0 of.1))
uid_found old new keyed keyed' name choices others at at' (Some uid) some none =
    let is = some uid refl in
    ((is.0, may_have_id old keyed name choices uid at is.0 is.1), lacks_choice new keyed' name others uid at' is.0 is.2)

module _ (extensions : Extensions) (old new : PlainSchema) where
  module _ (principal : PlainName) (uid : PlainUid) (resource : PlainName) (ty : Ty)
      (asked : IsEnvironmentOf old (record { principal = principal; action = uid; resource = resource; context = ty })) where
    -- a request of an environment of the old schema is one of it
    request_there : (it : PlainRequest) → IsOfTypes principal uid resource it → Has extensions it.context ty → NamesWhatExists old it.context
        → MayHaveId old it.principal → MayHaveId old it.resource → IsRequestIn extensions old it
    request_there it types has names first second =
        (record { principal = principal; action = uid; resource = resource; context = ty }, asked, types, has, names, first, second)

    -- it is lost where the new schema refuses it in each environment of its types
    pub lost_request : (it : PlainRequest) → IsOfTypes principal uid resource it → IsRealRequest it → Has extensions it.context ty
        → NamesWhatExists old it.context → MayHaveId old it.principal → MayHaveId old it.resource
        → ((other : Ty) → IsEnvironmentOf new (record { principal = principal; action = uid; resource = resource; context = other })
        → Has extensions it.context other → NamesWhatExists new it.context → MayHaveId new it.principal → MayHaveId new it.resource → ⊥)
        → IsLostRequest extensions old new it
    lost_request it types real has names first second refused = (
      real,
      request_there it types has names first second,
      λ (environment, of, types', has', names', first', second').
          let P : PlainName → PlainUid → PlainName → Type 0 = λ p a r. IsEnvironmentOf new
          (record { principal = p; action = a; resource = r; context = environment.context }) in
          let one = subst (λ p. P p environment.action environment.resource) (sym types'.principal_type ∙ types.principal_type) of in
          let two = subst (λ a. P principal a environment.resource) (sym types'.of_action ∙ types.of_action) one in
          let three = subst (λ r. P principal uid r) (sym types'.resource_type ∙ types.resource_type) two in
          refused environment.context three has' names' first' second',
    )

  -- the requests of an environment are kept where the new schema has it, with a context that each
  -- of its contexts is, and may have the uids of its types
  pub kept_requests : IsKeyed old → (principal : PlainName) (uid : PlainUid) (resource : PlainName) (ty other : Ty)
      → IsEnvironmentOf old (record { principal = principal; action = uid; resource = resource; context = ty })
      → IsEnvironmentOf new (record { principal = principal; action = uid; resource = resource; context = other })
      → IncludedBetween extensions old ty new other
      → ((it : PlainUid) → IsUidOfType old principal it → MayHaveId new it)
      → ((it : PlainUid) → IsUidOfType old resource it → MayHaveId new it)
      → KeepsRequest extensions old new principal uid resource
  kept_requests keyed principal uid resource ty other asked still included first second it types real
      (environment, of, types', has, names, may, may') =
      let context = included it.context real.3
      (subst (Has extensions it.context) (sym (context_once keyed uid ty environment asked (sym types'.of_action ∙ types.of_action) of)) has) names in (
        record { principal = principal; action = uid; resource = resource; context = other },
        still,
        types,
        context.0,
        context.1,
        first it.principal (types.principal_type, may),
        second it.resource (types.resource_type, may'),
      )
    where
      -- an action has one context
      contexts : (kind other_kind : ActionKind) (one two : Environment) → kind ≡ other_kind → IsRequestOf kind one → IsRequestOf other_kind two
          → one.context ≡ two.context
      contexts kind other_kind one two same first second = both other_kind one two (subst (λ k. IsRequestOf k one) same first) second
        where
          both : (kind : ActionKind) (one two : Environment) → IsRequestOf kind one → IsRequestOf kind two → one.context ≡ two.context
          both (defined_action p r c) one two first second = sym first.2 ∙ second.2
          both external_action one two first second = absurd first

      context_once : IsKeyed old → (uid : PlainUid) (ty : Ty) (environment : Environment)
          → IsEnvironmentOf old (record { principal = principal; action = uid; resource = resource; context = ty })
          → environment.action ≡ uid → IsEnvironmentOf old environment → ty ≡ environment.context
      context_once keyed uid ty environment (action, there, of) named (action', there', of') =
          let same : action ≡ action' = keyed.actions uid action action' there (subst (λ u. Contains old.actions (u, action')) named there') in
          contexts action.kind action'.kind _ environment (ap (λ (a : SchemaAction). a.kind) same) of of'
