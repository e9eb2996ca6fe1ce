use Rattle.cedar_compare.proofs.RequestSteps.{environment_context, removed_answer}
use Rattle.cedar_compare.proofs.requests.removed.Goals as goal
use Rattle.cedar_compare.specs.Words.{environment_with, new_of, old_of, plain_request, ty_of, type_name, uid_of}

-- the context is that of an environment of the old version
pub sample_request-requires-clause-context : goal.sample_request-requires-clause-context
sample_request-requires-clause-context c =
    environment_context (old_of c.args.versions.now)
    (environment_with c.args.requests.now (type_name c.args.principal.now) (type_name c.args.resource.now)) c.requires.asked

-- the request is a sample of an environment that the new version lacks
pub returns : goal.returns
returns c =
    let versions = c.args.versions.now in
    let requests = c.args.requests.now in
    removed_answer versions.extensions.now (old_of versions) (new_of versions) (type_name c.args.principal.now) (uid_of requests.uid.now)
    (type_name c.args.resource.now) (ty_of requests.context.now) c.requires.asked (uid_of c.in_ok-principal.principal)
    (uid_of c.in_ok-resource.resource) (plain_request c.in_ok-sample_request.field-0) c.in_ok-principal.ensures
    c.in_ok-resource.ensures c.in_ok-sample_request.ensures c.requires.lacking
