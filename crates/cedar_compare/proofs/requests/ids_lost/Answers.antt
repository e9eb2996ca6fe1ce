use Rattle.std.proofs.Common.{◌≡◌, Option, None, Some, inl, inr, refl, subst, sym}
use Rattle.std.specs.Option.{option_map}
use Rattle.cedar_compare.proofs.RequestSteps.{choice_answer, environment_context, kept_answer}
use Rattle.cedar_compare.proofs.requests.ids_lost.Goals as goal
use Rattle.cedar_compare.specs.Words.{EntityUID, IsContextOutside, IsUidOutside, LacksChoice, OutsideBetween, PlainName, PlainSchema, PlainUid, between_of, context_at, environment_with, new_action, new_of, old_of, plain_request, ty_of, type_name, uid_of}

-- where no uid is found, none is outside
none_outside : (old new : PlainSchema) (name : PlainName) (found : Option EntityUID) → ((uid : EntityUID) → found ≡ Some uid → ⊥)
    → IsUidOutside old new name (option_map uid_of found) → IsUidOutside old new name None
none_outside old new name None none outside = outside
none_outside old new name (Some uid) none outside = absurd (none uid refl)

pub sample_request-requires-clause-context : goal.sample_request-requires-clause-context
sample_request-requires-clause-context c =
    environment_context (old_of c.args.versions.now)
    (environment_with c.args.requests.now (type_name c.args.principal.now) (type_name c.args.resource.now)) c.requires.asked

-- the principal's id is lost
pub returns-in-Some : goal.returns-in-Some
returns-in-Some c =
    let versions = c.args.versions.now in
    let requests = c.args.requests.now in
    let old = old_of versions in
    let new = new_of versions in
    let P : Option EntityUID → Type 0 = λ found. IsUidOutside old new (type_name c.args.principal.now) (option_map uid_of found) in
    let outside = subst P c.in-Some.is c.in_ok-uid.ensures in
    let Q : PlainUid → Type 0 = LacksChoice new in
    choice_answer versions.extensions.now old new (type_name c.args.principal.now) (uid_of requests.uid.now)
    (type_name c.args.resource.now) (ty_of requests.context.now) c.requires.asked (uid_of c.in-Some.uid) (uid_of c.in_ok-resource.resource)
    (plain_request c.in_ok-witness.witness) outside.0 c.in_ok-resource.ensures c.in_ok-witness.ensures (uid_of c.in_ok-clone.field-0)
    (inl c.in_ok-clone.ensures.uid) (subst Q (sym c.in_ok-clone.ensures.uid) outside.1)

pub sample_request-requires-in-Some-2-clause-context : goal.sample_request-requires-in-Some-2-clause-context
sample_request-requires-in-Some-2-clause-context c =
    environment_context (old_of c.args.versions.now)
    (environment_with c.args.requests.now (type_name c.args.principal.now) (type_name c.args.resource.now)) c.requires.asked

-- the resource's id is lost
pub returns-in-Some-2 : goal.returns-in-Some-2
returns-in-Some-2 c =
    let versions = c.args.versions.now in
    let requests = c.args.requests.now in
    let old = old_of versions in
    let new = new_of versions in
    let P : Option EntityUID → Type 0 = λ found. IsUidOutside old new (type_name c.args.resource.now) (option_map uid_of found) in
    let outside = subst P c.in-Some-2.is c.in_ok-uid-2.ensures in
    let Q : PlainUid → Type 0 = LacksChoice new in
    choice_answer versions.extensions.now old new (type_name c.args.principal.now) (uid_of requests.uid.now)
    (type_name c.args.resource.now) (ty_of requests.context.now) c.requires.asked (uid_of c.in_ok-principal.principal)
    (uid_of c.in-Some-2.uid) (plain_request c.in_ok-witness-2.witness) c.in_ok-principal.ensures outside.0 c.in_ok-witness-2.ensures
    (uid_of c.in_ok-clone-2.field-0) (inr c.in_ok-clone-2.ensures.uid) (subst Q (sym c.in_ok-clone-2.ensures.uid) outside.1)

-- nothing is lost
pub returns : goal.returns
returns c =
    let versions = c.args.versions.now in
    let requests = c.args.requests.now in
    let ty = ty_of requests.context.now in
    let old = old_of versions in
    let new = new_of versions in
    let o = new_action requests in
    let P : Option OutsideBetween → Type 0 = λ it.
    IsContextOutside versions.extensions.now old new ty (context_at o) (option_map between_of it) in
    let within = subst P c.requires.found c.requires.requests.context in
    let principals = none_outside old new (type_name c.args.principal.now) c.in_ok-uid.field-0 c.in_default.not-Some c.in_ok-uid.ensures in
    let resources = none_outside old new (type_name c.args.resource.now) c.in_ok-uid-2.field-0 c.in_default-2.not-Some c.in_ok-uid-2.ensures in
    kept_answer versions.extensions.now old new (type_name c.args.principal.now) (uid_of requests.uid.now) (type_name c.args.resource.now)
    ty c.requires.asked c.requires.versions.old_keyed c.requires.versions.new_keyed o c.requires.requests.action within c.requires.still
    principals resources
