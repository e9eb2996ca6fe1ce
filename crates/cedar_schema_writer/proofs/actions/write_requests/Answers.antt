use Rattle.std.proofs.Common.{Some, ap, sym, ◌∙◌}
use Rattle.cedar_schema_elements.proofs.KindLemmas.{principal_of, resource_of}
use Rattle.cedar_schema_writer.proofs.KindLemmas.{defined_written, sound_action}
use Rattle.cedar_schema_writer.proofs.Refusals.{refusal_passed}
use Rattle.cedar_schema_writer.proofs.actions.write_requests.Goals as goal
use Rattle.cedar_schema_writer.specs.Words.{action_of, known_names, plain_namespace, ty_of}

pub returns-in_err-principal_types-clause-refusal : goal.returns-in_err-principal_types-clause-refusal
returns-in_err-principal_types-clause-refusal c =
    let kind = (action_of c.args.action.now).kind in
    refusal_passed _ _ c.from_residual.ensures.1 c.in_err-principal_types.ensures.refusal
    (λ some sound.
    some.2 (sound.no_other some.0 (principal_of kind some.0 (rw c.principals.ensures.names at some.1))))

pub returns-in_err-resource_types-clause-refusal : goal.returns-in_err-resource_types-clause-refusal
returns-in_err-resource_types-clause-refusal c =
    let kind = (action_of c.args.action.now).kind in
    refusal_passed _ _ c.from_residual-in_err-resource_types.ensures.1 c.in_err-resource_types.ensures.refusal
    (λ some sound.
    some.2 (sound.no_other some.0 (resource_of kind some.0 (rw c.resources.ensures.names at some.1))))

pub returns-clause-written : goal.returns-clause-written
returns-clause-written c =
    let namespace = plain_namespace c.args.namespace.now in
    defined_written namespace (action_of c.args.action.now).kind c.in_ok-principal_types.principal_types.items c.in_ok-resource_types.resource_types.items
    (ty_of c.in-Some.context.now) _ (sym c.in-Some.ensures.ty) (c.in_ok-principal_types.ensures.names ∙ c.principals.ensures.names)
    (c.in_ok-resource_types.ensures.names ∙ c.resources.ensures.names)
    (c.in_ok-context.ensures.written ∙ ap Some (sym (c.plain.ensures namespace)))

pub returns-clause-sound : goal.returns-clause-sound
returns-clause-sound c =
    let names = known_names c.args.known.now in
    let namespace = plain_namespace c.args.namespace.now in
    sound_action namespace names (action_of c.args.action.now).kind (ty_of c.in-Some.context.now) (sym c.in-Some.ensures.ty) c.in_ok-context.ensures.sound
    (λ name among.
    c.in_ok-principal_types.ensures.no_other name (rw c.principals.ensures.names among))
    (λ name among.
    c.in_ok-resource_types.ensures.no_other name (rw c.resources.ensures.names among))
