use Rattle.std.proofs.Common.{None, Some, ap, sym, ◌∙◌}
use Rattle.std.specs.Option.{option_and_then}
use Rattle.cedar_queries.proofs.LookupLemmas.{action_shown}
use Rattle.cedar_queries.proofs.requests.context_type.Goals as goal
use Rattle.cedar_queries.specs.Words.{SchemaAction, kind_context}

pub returns-in_err-get : goal.returns-in_err-get
returns-in_err-get c =
    let none = action_shown c.args.actions.now c.args.uid.now None (sym c.in_err-get.ensures.value) in
    rw (c.from_residual.ensures) (sym (ap (option_and_then (λ (it : SchemaAction). kind_context it.kind)) none))

pub returns : goal.returns
returns c =
    let found = action_shown c.args.actions.now c.args.uid.now (Some c.in_ok-get.field-0.now) (sym c.in_ok-get.ensures.value) in
    c.context.ensures.ty ∙ sym (ap (option_and_then (λ (it : SchemaAction). kind_context it.kind)) found)
