use Rattle.std.proofs.Common.{sym, ◌∙◌}
use Rattle.std.proofs.lemmas.Bool.{false≢true}
use Rattle.cedar_compare.proofs.RequestSteps.{lacking_there, still_there}
use Rattle.cedar_compare.proofs.requests.lost_request.Goals as goal
use Rattle.cedar_compare.specs.Words.{new_action, new_of, type_name, uid_of}

-- the new version's action isn't for the principal and the resource
pub removed-requires-clause-lacking : goal.removed-requires-clause-lacking
removed-requires-clause-lacking c =
    let requests = c.args.requests.now in
    lacking_there (new_of c.args.versions.now) (uid_of requests.uid.now) c.requires.versions.new_keyed (new_action requests)
    c.requires.requests.action (type_name c.args.principal.now) (type_name c.args.resource.now)
    (λ applied. false≢true (sym c.if-not-is_kept.true ∙ c.is_kept.ensures.1 applied))

-- it is
pub context_lost-requires-clause-still : goal.context_lost-requires-clause-still
context_lost-requires-clause-still c =
    let requests = c.args.requests.now in
    still_there (new_of c.args.versions.now) (uid_of requests.uid.now) (new_action requests) c.requires.requests.action
    (type_name c.args.principal.now) (type_name c.args.resource.now) (c.is_kept.ensures.0 c.if-not-is_kept.false)

pub ids_lost-requires-clause-still : goal.ids_lost-requires-clause-still
ids_lost-requires-clause-still c =
    let requests = c.args.requests.now in
    still_there (new_of c.args.versions.now) (uid_of requests.uid.now) (new_action requests) c.requires.requests.action
    (type_name c.args.principal.now) (type_name c.args.resource.now) (c.is_kept.ensures.0 c.if-not-is_kept.false)
