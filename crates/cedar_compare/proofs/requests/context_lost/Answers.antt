use Rattle.std.proofs.Common.{Option, Some, refl, subst, sym}
use Rattle.std.specs.Option.{option_map}
use Rattle.cedar_ast.proofs.ValueCopies.{uid_real}
use Rattle.cedar_compare.proofs.RequestSteps.{context_answer}
use Rattle.cedar_compare.proofs.requests.context_lost.Goals as goal
use Rattle.cedar_compare.specs.Words.{Has, IsContextOutside, IsAnswer, NamesWhatExists, OutsideBetween, PlainCause, Request, Tree, between_of, context_at, environment_subject, new_action, new_of, old_of, plain_request, request_lost, steps_of, ty_of, type_name, uid_of}

-- the request has the value that is outside as its context
pub returns : goal.returns
returns c =
    let versions = c.args.versions.now in
    let requests = c.args.requests.now in
    let found = c.args.found.now in
    let ty = ty_of requests.context.now in
    let o = new_action requests in
    let old = old_of versions in
    let new = new_of versions in
    let P : Option OutsideBetween → Type 0 = λ it. IsContextOutside versions.extensions.now old new ty (context_at o) (option_map between_of it) in
    let outside = subst P c.requires.found c.requires.requests.context in
    let copy = c.in_ok-clone-2.ensures in
    let Q : Tree → Type 0 = λ value. Has versions.extensions.now value ty in
    let request : Request = record {
      principal = c.in_ok-some_uid.field-0;
      action = c.in_ok-clone.field-0;
      resource = c.in_ok-some_uid-2.field-0;
      context = c.in_ok-clone-2.field-0;
    } in
    let R : PlainCause → Type 0 = λ cause. IsAnswer versions.extensions.now old new
    (environment_subject (type_name c.args.principal.now) (uid_of requests.uid.now) (type_name c.args.resource.now))
    (Some (request_lost (plain_request request) cause)) in
    subst R (sym c.part_cause-cause.ensures)
    (context_answer versions.extensions.now old new (type_name c.args.principal.now) (uid_of requests.uid.now)
    (type_name c.args.resource.now) ty c.requires.asked (uid_of c.in_ok-some_uid.field-0) (uid_of c.in_ok-some_uid-2.field-0)
    (plain_request request) c.in_ok-some_uid.ensures c.in_ok-some_uid-2.ensures
    (record {
      principal_is = refl;
      action_is = c.in_ok-clone.ensures.uid;
      resource_is = refl;
      real = (uid_real c.in_ok-some_uid.field-0, uid_real c.in_ok-clone.field-0, uid_real c.in_ok-some_uid-2.field-0, copy.1);
      has = subst Q (sym copy.0) outside.2.has;
      exists = subst (NamesWhatExists old) (sym copy.0) outside.2.exists;
    })
    c.requires.versions.new_keyed o c.requires.requests.action (between_of found) (steps_of c.in_ok-steps.steps)
    (option_map uid_of c.in_ok-lost.lost) outside copy.0 c.in_ok-steps.ensures c.in_ok-lost.ensures c.requires.still)
